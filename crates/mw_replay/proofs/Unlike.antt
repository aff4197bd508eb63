-- Where two lists are unlike.
use Rattle.std.proofs.Common.{◌≡◌, ℕ, ◌+◌, ◌<◌, ◌≤◌, List, [], ◌∷◌, length, drop, get_or, Bool, true, false, Some, refl}
use Rattle.std.proofs.Common.{arith, min, inl, inr, length-drop, ◌≢◌}
use Rattle.std.proofs.lemmas.Bool.{cases_lt}
use Rattle.std.proofs.lemmas.List.{drop_all}
use Rattle.mw_base.proofs.Lists.{next}
use Rattle.mw_rel.specs.Differs.{unlike_from}

-- two lists that go on alike
pub alike : {A : Type 0} (same : A → A → Bool) (xs ys : List A) (n : ℕ) (x y : A) → n < length xs → n < length ys
    → x ≡ get_or xs n x → y ≡ get_or ys n y → same x y ≡ true
    → unlike_from same n (drop n xs) (drop n ys) ≡ unlike_from same (n + 1) (drop (n + 1) xs) (drop (n + 1) ys)
alike same xs ys n x y h k ex ey e = rw (next xs n x h ex, next ys n y k ey, e) refl

-- two lists that are unlike here
pub unlike : {A : Type 0} (same : A → A → Bool) (xs ys : List A) (n : ℕ) (x y : A) → n < length xs → n < length ys
    → x ≡ get_or xs n x → y ≡ get_or ys n y → same x y ≡ false
    → unlike_from same n (drop n xs) (drop n ys) ≡ Some n
unlike same xs ys n x y h k ex ey e = rw (next xs n x h ex, next ys n y k ey, e) refl

-- one list that goes on where the other has ended
goes_on : {A : Type 0} (same : A → A → Bool) (zs : List A) (n : ℕ) → 0 < length zs
    → (unlike_from same n zs [] ≡ Some n) × (unlike_from same n [] zs ≡ Some n)
goes_on same [] n h = absurd (omega arith)
goes_on same (z ∷ zs) n h = (refl, refl)

-- two lists of which one has ended
pub shorter : {A : Type 0} (same : A → A → Bool) (xs ys : List A) (n : ℕ) → n ≡ min (length xs) (length ys)
    → length xs ≢ length ys → unlike_from same n (drop n xs) (drop n ys) ≡ Some n
shorter {A} same xs ys n e d = elim (cases_lt (length xs) (length ys)) [
  | inl h ↦ (let all : length xs ≤ n = omega arith in
      let rest : 0 < length (drop n ys) = omega (arith, length-drop {A = A} n ys) in
      rw (drop_all n xs all) ((goes_on same (drop n ys) n rest).1))
  | inr h ↦ (let more : length ys < length xs = omega arith in
      let all : length ys ≤ n = omega arith in
      let rest : 0 < length (drop n xs) = omega (arith, length-drop {A = A} n xs) in
      rw (drop_all n ys all) ((goes_on same (drop n xs) n rest).0))
]
