use Rattle.std.proofs.Common.{◌≡◌, drop, ◌==◌}
use Rattle.std.specs.List.{list_any}
use Rattle.mw_rel.specs.Relation.{Boundary}
use Rattle.mw_rel.specs.Seen.{boundaries_of}
use Rattle.mw_descfile.proofs.block.is_taken.Given as goal

abbrev pub invariant-loop-boundary : goal.invariant-loop-boundary
invariant-loop-boundary l =
    list_any (λ (b : Boundary). b.address == l.address) (boundaries_of (drop l.boundary-index l.boundaries))
    ≡ list_any (λ (b : Boundary). b.address == l.address) (boundaries_of l.boundaries)
