use Rattle.std.proofs.Common.{◌-◌, ◌^◌, length}
use Rattle.mw_explore.specs.Explorers.{Stands}
use Rattle.mw_explore.specs.KeptBits.{IsWayFrom}
use Rattle.mw_explore.proofs.explorer.follow.Given as goal

abbrev pub invariant-loop-kind : goal.invariant-loop-kind
invariant-loop-kind g l = record {
  stands : Stands (g.T.CaseTree.is_case l.tree) (g.T.CaseTree.has_come l.tree) (g.T.CaseTree.is_waiting l.tree) l.course
      l.trail.way l.trail.waiting.items;
  from : IsWayFrom (g.T.CaseTree.is_case l.tree) l.fn.trail.way l.trail.way;
}

abbrev pub decreases-loop-kind : goal.decreases-loop-kind
decreases-loop-kind g l = 2 ^ 32 - length l.trail.way
