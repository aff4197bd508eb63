-- Places of a list that is one longer.
use Rattle.std.proofs.Common.{◌≡◌, ◌⊎◌, inl, inr, ℕ, zero, suc, List, [], ◌∷◌, ◌++◌, length, set, refl, ap, arith, ◌<◌}
use Rattle.std.proofs.Common.{get_or, sym, ◌∙◌}
use Rattle.std.specs.Prelude.{slice_get, Some}
use Rattle.std.proofs.lemmas.Option.{slice_get_cases, get_or_from_slice_get}

-- a place of a longer list is an old one or the last
pub get-push : {A : Type 0} (xs : List A) (x : A) (k : ℕ) (y : A) → slice_get (xs ++ x ∷ []) k ≡ Some y
    → (slice_get xs k ≡ Some y) ⊎ ((k ≡ length xs) × (x ≡ y))
get-push [] x zero y e = inr (refl, cc)
get-push [] x (suc k) y e = cc
get-push (z ∷ zs) x zero y e = inl e
get-push (z ∷ zs) x (suc k) y e = elim (get-push zs x k y e) [ inl h ↦ inl h | inr h ↦ inr (ap suc h.0, h.1) ]

-- an old place stays
pub get-push_old : {A : Type 0} (xs : List A) (x : A) (k : ℕ) (y : A) → slice_get xs k ≡ Some y
    → slice_get (xs ++ x ∷ []) k ≡ Some y
get-push_old [] x k y e = cc
get-push_old (z ∷ zs) x zero y e = e
get-push_old (z ∷ zs) x (suc k) y e = get-push_old zs x k y e

-- and the last is the new one
pub get-push_new : {A : Type 0} (xs : List A) (x : A) → slice_get (xs ++ x ∷ []) (length xs) ≡ Some x
get-push_new [] x = refl
get-push_new (z ∷ zs) x = get-push_new zs x

-- a place that is set, and another one
pub get-set_same : {A : Type 0} (xs : List A) (k : ℕ) (y : A) → k < length xs → slice_get (set xs k y) k ≡ Some y
get-set_same [] k y h = absurd (omega (arith, h))
get-set_same (z ∷ zs) zero y h = refl
get-set_same (z ∷ zs) (suc k) y h = get-set_same zs k y (omega (arith, h))

pub get-set_other : {A : Type 0} (xs : List A) (k j : ℕ) (y : A) → ¬ (j ≡ k)
    → slice_get (set xs k y) j ≡ slice_get xs j
get-set_other [] k j y h = refl
get-set_other (z ∷ zs) zero zero y h = absurd (h refl)
get-set_other (z ∷ zs) zero (suc j) y h = refl
get-set_other (z ∷ zs) (suc k) zero y h = refl
get-set_other (z ∷ zs) (suc k) (suc j) y h = get-set_other zs k j y (λ e. h (ap suc e))

-- what an index of a list reads stands there
pub at-index : {A : Type 0} (xs : List A) (i : ℕ) (x : A) → i < length xs → x ≡ get_or xs i x
    → slice_get xs i ≡ Some x
at-index xs i x within is = elim (slice_get_cases xs i).1 [
  | inl found ↦ found.2 ∙ ap Some (sym (get_or_from_slice_get xs i found.0 x found.2) ∙ sym is)
  | inr past ↦ absurd (omega (arith, past.0, within))
]

-- the last of a list, and what stands in its place once it is set twice
pub record IsLast {A : Type 0} (xs : List A) (i : ℕ) (own : A) : Type 0 where
  pub before : List A
  pub was : xs ≡ before ++ own ∷ []
  pub is : (v u : A) → set (set xs i v) i u ≡ before ++ u ∷ []

pub last_split : {A : Type 0} (xs : List A) (i : ℕ) (own : A) → suc i ≡ length xs → slice_get xs i ≡ Some own
    → IsLast xs i own
last_split [] i own e at = absurd (omega (arith, e))
last_split (z ∷ []) zero own e at = record { before = []; was = cc; is = λ v u. refl }
last_split (z ∷ []) (suc i) own e at = absurd (omega (arith, e))
last_split (z ∷ y ∷ zs) zero own e at = absurd (omega (arith, e))
last_split {A} (z ∷ y ∷ zs) (suc i) own e at =
    let rest = last_split (y ∷ zs) i own (omega (arith, e)) at in
    record {
      before = z ∷ rest.before;
      was = ap (λ (l : List A). z ∷ l) rest.was;
      is = λ v u. ap (λ (l : List A). z ∷ l) (rest.is v u);
    }
