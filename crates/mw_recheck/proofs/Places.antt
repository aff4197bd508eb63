-- Places of a list that is one longer.
use Rattle.std.proofs.Common.{◌≡◌, ◌⊎◌, inl, inr, ℕ, zero, suc, List, [], ◌∷◌, ◌++◌, length, refl, ap}
use Rattle.std.specs.Prelude.{slice_get, Some}

-- a place of a longer list is an old one or the last
pub get-push : {A : Type 0} (xs : List A) (x : A) (k : ℕ) (y : A) → slice_get (xs ++ x ∷ []) k ≡ Some y
    → (slice_get xs k ≡ Some y) ⊎ ((k ≡ length xs) × (x ≡ y))
get-push [] x zero y e = inr (refl, cc)
get-push [] x (suc k) y e = cc
get-push (z ∷ zs) x zero y e = inl e
get-push (z ∷ zs) x (suc k) y e = elim (get-push zs x k y e) [ inl h ↦ inl h | inr h ↦ inr (ap suc h.0, h.1) ]
