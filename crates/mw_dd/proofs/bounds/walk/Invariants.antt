use Rattle.mw_dd.proofs.Below.{IsOnWalk}
use Rattle.mw_dd.proofs.bounds.walk.Given as goal

abbrev pub invariant-loop-at : goal.invariant-loop-at
invariant-loop-at l = IsOnWalk l.nodes l.fn.x l.found.items l.at
