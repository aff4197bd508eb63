use Rattle.std.proofs.Common.{◌≡◌, length}
use Rattle.mw_explore.specs.Ways.{turned_last}
use Rattle.mw_explore.proofs.way.Way.turn.Given as goal

abbrev pub invariant-loop-last : goal.invariant-loop-last
invariant-loop-last l = turned_last l.fn.self ≡ turned_last l.self

abbrev pub decreases-loop-last : goal.decreases-loop-last
decreases-loop-last l = length l.self
