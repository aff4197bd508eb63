use Rattle.std.proofs.Common.{◌∙◌}
use Rattle.mw_cases.specs.Board.{first_address}
use Rattle.mw_cases.proofs.Pushed.{pushed}
use Rattle.mw_cases.proofs.board.map_entries.Goals as goal

pub loop-instruction-preserved : goal.loop-instruction-preserved
loop-instruction-preserved c =
    c.in_ok-push.ensures.items
    ∙ pushed first_address c.loop-instruction.instruction c.loop-instruction.entries.items c.first_address.result
    c.loop-instruction.invariant c.first_address.ensures
