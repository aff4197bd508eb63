-- The parts of what has a width have widths.
use Rattle.std.proofs.Common.{◌≡◌, ℕ, zero, suc, ◌<◌, ◌≤◌, List, [], ◌∷◌, length, Bool, true, false, arith}
use Rattle.std.specs.Prelude.{Option, Some, None, IsSome, slice_get, slice_index, if◌then◌else◌, ◌==◌}
use Rattle.std.proofs.lemmas.Bool.Decides.{nat_tests}
use Rattle.mw_expr.specs.Widths.{width_if, element_width, choice_width, widened_width}

-- a width where its rule holds
pub width_if-some : (rule : Bool) (w : ℕ) → IsSome (width_if rule w)
    → (width_if rule w ≡ Some w) × (1 ≤ w) × (w ≤ 32) × (rule ≡ true)
width_if-some true w some = grind (arith, nat_tests)
width_if-some false w some = grind (arith, nat_tests)

-- an element that has a width is there
pub element_there : (widths : List ℕ) (n : ℕ) → IsSome (element_width (slice_get widths n)) → n < length widths
element_there [] n some = grind arith
element_there (w ∷ rest) zero some = omega arith
element_there (w ∷ rest) (suc n) some = omega (arith, element_there rest n some)

-- and has its own width
pub element_of_width : (widths : List ℕ) (n : ℕ) → IsSome (element_width (slice_get widths n)) →
    (element_width (slice_get widths n) ≡ Some (slice_index widths n)) × (1 ≤ slice_index widths n) ×
    (slice_index widths n ≤ 32)
element_of_width [] n some = grind arith
element_of_width (w ∷ rest) zero some = let h = width_if-some true w some in (h.0, h.1, h.2)
element_of_width (w ∷ rest) (suc n) some = element_of_width rest n some

-- a choice is as wide as each of the two between which it chooses
pub choice_of_first : (c a b : Option ℕ) → IsSome (choice_width c a b) → choice_width c a b ≡ a
choice_of_first (Some c) (Some a) (Some b) some = (width_if-some _ a some).0
choice_of_first None a b some = grind arith
choice_of_first (Some c) None b some = grind arith
choice_of_first (Some c) (Some a) None some = grind arith

-- what is widened is no wider
pub widened_from : (to from : ℕ) → IsSome (widened_width to (Some from)) → from ≤ to
widened_from to from some = let h = (width_if-some _ to some).3 in grind (arith, nat_tests)

-- a choice that its condition doesn't decide for the first
pub unless_one : (v x y : ℕ) → (v ≡ 1 → ⊥) → (if v == 1 then x else y) ≡ y
unless_one v x y other = grind (arith, nat_tests)
