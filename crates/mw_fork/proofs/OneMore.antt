-- One boundary more, in their order.
use Rattle.std.proofs.Common.{◌≡◌, inl, inr, ℕ, List, [], ◌∷◌, ◌++◌, length, subst, sym, ◌∙◌}
use Rattle.std.specs.Prelude.{Some, slice_get}
use Rattle.mw_dd.proofs.Lists.{get-push}

-- what is said of each item, with its number, is said of each where there is one more
pub each_with_one_more : {A : Type 0} (says : ℕ → A → Type 0) (items : List A) (number : ℕ) (item : A)
    → ((k : ℕ) (each : A) → slice_get items k ≡ Some each → says k each) → length items ≡ number → says number item
    → (k : ℕ) (each : A) → slice_get (items ++ item ∷ []) k ≡ Some each → says k each
each_with_one_more says items number item are count is k each there =
    elim (get-push items item k each there) [
      | inl old ↦ are k each old
      | inr new ↦ subst (says k) new.1 (subst (λ n. says n item) (sym (new.0 ∙ count)) is)
    ]
