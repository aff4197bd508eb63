use Rattle.std.proofs.Common.{◌≤◌, All, drop}
use Rattle.mw_rel.specs.Relation.{IsFormedBoundary}
use Rattle.mw_rel.specs.Seen.{boundaries_of}
use Rattle.mw_callrows.proofs.calls.plain.are_formed.Given as goal

abbrev pub invariant-loop-boundary : goal.invariant-loop-boundary
invariant-loop-boundary l = record {
  formed : All (IsFormedBoundary l.shape) (boundaries_of (drop l.boundary-index l.boundaries))
      → All (IsFormedBoundary l.shape) (boundaries_of l.boundaries);
  pointers : All (λ boundary. boundary.sp ≤ l.depth) (boundaries_of (drop l.boundary-index l.boundaries))
      → All (λ boundary. boundary.sp ≤ l.depth) (boundaries_of l.boundaries);
}
