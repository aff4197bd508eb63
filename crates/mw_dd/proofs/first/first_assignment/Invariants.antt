use Rattle.mw_dd.specs.Walks.{Walks}
use Rattle.mw_dd.proofs.first.first_assignment.Given as goal

abbrev pub invariant-loop-alloc : goal.invariant-loop-alloc
invariant-loop-alloc l = Walks l.nodes l.fn.x l.assignment l.at

abbrev pub decreases-loop-alloc : goal.decreases-loop-alloc
decreases-loop-alloc l = l.at
