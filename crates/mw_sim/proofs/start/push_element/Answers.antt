use Rattle.std.proofs.Common.{sym}
use Rattle.mw_sim.proofs.Starts.{width_few}
use Rattle.mw_sim.proofs.start.push_element.Goals as goal

pub two_to-requires : goal.two_to-requires
two_to-requires c = width_few c.args.board.now c.args.number c.in-Some-Some.width c.parts.ensures.valid
    (sym c.in-Some-Some.ensures')
