use Rattle.std.proofs.Common.{◌≡◌, drop}
use Rattle.std.specs.Prelude.{◌==◌, find}
use Rattle.mw_rel.specs.Relation.{Boundary}
use Rattle.mw_rel.specs.Seen.{boundaries_of}
use Rattle.mw_course.proofs.reached.found_at.Given as goal

abbrev pub invariant-loop-boundary : goal.invariant-loop-boundary
invariant-loop-boundary l =
    find (λ (b : Boundary). b.address == l.address) (boundaries_of l.boundaries)
    ≡ find (λ (b : Boundary). b.address == l.address) (boundaries_of (drop l.boundary-index l.boundaries))
