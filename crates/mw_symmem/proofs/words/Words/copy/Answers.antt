use Rattle.std.proofs.Common.{◌∙◌}
use Rattle.std.proofs.lemmas.List.Elements.{same_from_all_zip}
use Rattle.mw_symmem.proofs.Copies.{maps-same}
use Rattle.mw_symmem.proofs.words.Words.copy.Goals as goal

pub invariant_of-result : goal.invariant_of-result
invariant_of-result c =
    maps-same c.self.inside.words.items c.in_ok-from_slice.field-0.items c.self.inside.numbers c.in_ok-clone.field-0
    c.self.inside.terms c.in_ok-clone-2.field-0 (c.in_ok-from_slice.ensures.items ∙ c.deref.ensures.value)
    (same_from_all_zip _ _ _ c.in_ok-clone.ensures.cases (λ x y r. λ i. (r.0 i, r.1 i)))
    (same_from_all_zip _ _ _ c.in_ok-clone-2.ensures.cases (λ x y r. λ i. (r.0 i, r.1 i)))
    c.self.invariant
