use Rattle.mw_top.specs.Commands.Equal.{variable_line}
use Rattle.mw_sim.proofs.NumberedLines.{numbered_more}
use Rattle.mw_top.proofs.commands.equal.append_variables.Goals as goal

pub loop-number-preserved : goal.loop-number-preserved
loop-number-preserved c =
    numbered_more (variable_line c.args.names.now c.args.values.now) c.loop-number.number _ _ _ c.loop-number.invariant
    c.in_ok-append_variable.ensures
