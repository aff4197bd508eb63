-- Decided bits with one more.
use Rattle.std.proofs.Common.{◌≡◌, ℕ, zero, suc, ◌+◌, ◌<◌, ◌≤◌, List, [], ◌∷◌, ◌++◌, length, refl, ap, arith, ◌∙◌}
use Rattle.std.specs.Prelude.{Bool, true, false, if◌then◌else◌}
use Rattle.mw_base.specs.Words.{num}
use Rattle.mw_term.specs.declared.decided.Decided.{Decided}
use Rattle.mw_symboard.specs.Cycle.{value_in}

-- the values of a list with one item more
pub value_more : (xs : List Decided) (x : Decided) (k : ℕ) → k < length xs → value_in (xs ++ x ∷ []) k ≡ value_in xs k
value_more [] x k within = absurd (omega (arith, within))
value_more (y ∷ ys) x zero within = refl
value_more (y ∷ ys) x (suc k) within = value_more ys x k (omega (arith, within))

-- it is one longer
pub count_more : (xs : List Decided) (x : Decided) → length (xs ++ x ∷ []) ≡ length xs + 1
count_more [] x = refl
count_more (y ∷ ys) x = ap suc (count_more ys x) ∙ omega arith

-- pass is what it was
pub pass_same : (tested : Bool) (xs : List Decided) (x : Decided) → num tested ≤ length xs
    → (if tested then value_in (xs ++ x ∷ []) 0 else true) ≡ (if tested then value_in xs 0 else true)
pass_same true xs x within = value_more xs x 0 (omega (arith, within))
pass_same false xs x within = refl

-- and so is whether the counter is zero
pub zero_same : (tested counted : Bool) (xs : List Decided) (x : Decided) → num tested + num counted ≤ length xs
    → (if counted then value_in (xs ++ x ∷ []) (num tested) else false)
    ≡ (if counted then value_in xs (num tested) else false)
zero_same true true xs x within = value_more xs x 1 (omega (arith, within))
zero_same false true xs x within = value_more xs x 0 (omega (arith, within))
zero_same tested false xs x within = refl
