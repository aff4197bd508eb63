-- The order of variables.
use Rattle.std.proofs.Common.{◌≡◌, ◌⊎◌, inl, inr, ℕ, ◌+◌, arith, refl, ap}
use Rattle.std.specs.Prelude.{Bool, true, false, ◌==◌, ◌&&◌, ◌||◌, nat_lt}
use Rattle.std.proofs.lemmas.Bool.{cases_order}
use Rattle.std.proofs.lemmas.Bool.Decides.{nat_tests}
use Rattle.mw_term.specs.Cofactors.{Variable, variable, is_before}
use Rattle.mw_dd.specs.Nodes.{after}

-- the order, on numbers
abbrev less : (b w c x : ℕ) → Bool
less b w c x = nat_lt b c || (b == c && nat_lt w x)

trans : (b w c x d y : ℕ) → less b w c x ≡ false → less c x d y ≡ false → less b w d y ≡ false
trans b w c x d y h g = grind (arith, nat_tests)

next : (b w c x : ℕ) → less b w c x ≡ false → (b ≡ c → w ≡ x → ⊥) → less b w c (x + 1) ≡ false
next b w c x h differ = elim (cases_order b c) [
  | inl same ↦ elim (cases_order w x) [
    | inl alike ↦ absurd (differ same alike)
    | inr other ↦ elim other [
      | inl below ↦ grind (arith, nat_tests)
      | inr above ↦ grind (arith, nat_tests)
    ]
  ]
  | inr other ↦ elim other [
    | inl below ↦ grind (arith, nat_tests)
    | inr above ↦ grind (arith, nat_tests)
  ]
]

-- what is not before a variable is not before what that one is not before
pub not_before-trans : (m v p : Variable) → is_before m v ≡ false → is_before v p ≡ false → is_before m p ≡ false
not_before-trans m v p = trans m.bit m.word v.bit v.word p.bit p.word

-- the place after a variable is behind it
pub after_later : (v p : Variable) → is_before v p ≡ false → is_before (after v) p ≡ false
after_later v p h = grind (arith, nat_tests)

pub before_after : (v : Variable) → is_before v (after v) ≡ true
before_after v = grind (arith, nat_tests)

pub not_before_itself : (v : Variable) → is_before v v ≡ false
not_before_itself v = grind (arith, nat_tests)

pub later_after : (v m : Variable) → is_before v m ≡ true → is_before m (after v) ≡ false
later_after v m h = grind (arith, nat_tests)

pub not_before_first : (v : Variable) → is_before v (variable 0 0) ≡ false
not_before_first v = grind (arith, nat_tests)

pub not_after : (v m : Variable) → is_before m (after v) ≡ false → is_before m v ≡ false
not_after v m h = grind (arith, nat_tests)

-- a variable by its parts
pub same_variable : (v u : Variable) → v.bit ≡ u.bit → v.word ≡ u.word → v ≡ u
same_variable v u bit word =
    let made : ℕ × ℕ → Variable = λ p. variable p.0 p.1 in
    let parts : ◌≡◌ {A = ℕ × ℕ} (v.bit, v.word) (u.bit, u.word) = rw (bit, word) refl in
    ap made parts

-- another variable that isn't before this one comes after it
pub other_after : (m v : Variable) → is_before m v ≡ false → ¬ (m ≡ v) → is_before m (after v) ≡ false
other_after m v h differ = next m.bit m.word v.bit v.word h (λ bit word. differ (same_variable m v bit word))

-- one of two variables comes before the other, or they are one
pub order_cases : (v u : Variable) → (v ≡ u) ⊎ ((is_before v u ≡ true) ⊎ (is_before u v ≡ true))
order_cases v u = elim (cases_order v.bit u.bit) [
  | inl same ↦ elim (cases_order v.word u.word) [
    | inl alike ↦ inl (same_variable v u same alike)
    | inr other ↦ elim other [
      | inl below ↦ inr (inl (grind (arith, nat_tests)))
      | inr above ↦ inr (inr (grind (arith, nat_tests)))
    ]
  ]
  | inr other ↦ elim other [
    | inl below ↦ inr (inl (grind (arith, nat_tests)))
    | inr above ↦ inr (inr (grind (arith, nat_tests)))
  ]
]
