use Rattle.std.proofs.Common.{sym}
use Rattle.mw_sim.proofs.Starts.{width_few}
use Rattle.mw_revise.proofs.Ranges.{values_few}
use Rattle.mw_revise.proofs.element.element_bound.Goals as goal

pub two_to-requires : goal.two_to-requires
two_to-requires c =
    width_few c.args.board.now c.args.number c.in-Some.width c.parts.ensures.valid (sym c.in-Some.ensures)

pub returns-in-Some-clause-most : goal.returns-in-Some-clause-most
returns-in-Some-clause-most c = rw c.two_to.ensures (values_few c.in-Some.width
    (width_few c.args.board.now c.args.number c.in-Some.width c.parts.ensures.valid (sym c.in-Some.ensures)))
