-- A control address is named exactly where a boundary is found there.
use Rattle.std.proofs.Common.{◌≡◌, ℕ, List, [], ◌∷◌, map, Bool, true, false, ◌==◌, refl}
use Rattle.std.specs.Prelude.{find}
use Rattle.std.specs.Option.{is_some}
use Rattle.mw_cycle.specs.Boundary.{is_named}
use Rattle.mw_rel.specs.Certified.{boundary_at}
use Rattle.mw_rel.specs.Job.{Job}
use Rattle.mw_rel.specs.Relation.{Boundary}
use Rattle.mw_rel.specs.Start.{addresses_of}

named_or : (b : Boundary) (rest : List Boundary) (at : ℕ) (test : Bool) → (b.address == at) ≡ test
    → is_named (map (λ (b : Boundary). b.address) rest) at ≡ is_some (find (λ (b : Boundary). b.address == at) rest)
    → is_named (map (λ (b : Boundary). b.address) (b ∷ rest)) at
    ≡ is_some (find (λ (b : Boundary). b.address == at) (b ∷ rest))
named_or b rest at true is same = rw is refl
named_or b rest at false is same = rw is same

named_among : (boundaries : List Boundary) (at : ℕ)
    → is_named (map (λ (b : Boundary). b.address) boundaries) at
    ≡ is_some (find (λ (b : Boundary). b.address == at) boundaries)
named_among [] at = refl
named_among (b ∷ rest) at = named_or b rest at (b.address == at) refl (named_among rest at)

pub named_if_there : (job : Job) (at : ℕ) → is_named (addresses_of job) at ≡ is_some (boundary_at job at)
named_if_there job at = named_among job.relation.boundaries at
