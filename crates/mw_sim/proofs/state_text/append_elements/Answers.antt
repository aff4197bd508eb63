use Rattle.mw_sim.specs.StateText.{element_line}
use Rattle.mw_sim.proofs.NumberedLines.{numbered_more}
use Rattle.mw_sim.proofs.state_text.append_elements.Goals as goal

pub loop-number-preserved : goal.loop-number-preserved
loop-number-preserved c =
    numbered_more (element_line c.args.board.now c.args.state.now) c.loop-number.number _ _ _ c.loop-number.invariant
    c.in_ok-append_element.ensures
