use Rattle.std.proofs.Common.{length}
use Rattle.mw_board.specs.Rules.{load_rule}
use Rattle.mw_boardfile.specs.Kept.{ListKeeps}
use Rattle.mw_boardfile.proofs.Kept.{came_keeps}
use Rattle.mw_boardfile.proofs.flipflops.loads_of.Goals as goal

pub returns-clause-kept : goal.returns-clause-kept
returns-clause-kept c =
    came_keeps (ListKeeps (load_rule c.args.width (length c.args.flipflops.now)) c.args.fields.now c.args.control)
    c.loads.result c.under_list.result c.under_list.ensures.came c.loads.ensures.kept
