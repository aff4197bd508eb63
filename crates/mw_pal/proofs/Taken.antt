-- The inputs that a step took.
use Rattle.std.proofs.Common.{◌≡◌, ℕ, zero, suc, ◌+◌, ◌<◌, List, [], ◌∷◌, ◌++◌, map, slice_index, ap, ◌∙◌}
use Rattle.std.proofs.Common.{append_assoc, arith}
use Rattle.mw_cycle.specs.Boundary.{numbers}
use Rattle.mw_replay.proofs.Settables.{made_more}

-- one more behind others
pub taken_more : (before : List ℕ) (f : ℕ → ℕ) (n : ℕ)
    → (before ++ map f (numbers 0 n)) ++ (f n ∷ []) ≡ before ++ map f (numbers 0 (n + 1))
taken_more before f n = append_assoc before (map f (numbers 0 n)) (f n ∷ []) ∙ ap (λ xs. before ++ xs) (made_more f n)

-- ---- each of them is small

made_small : (f : ℕ → ℕ) (from n bound : ℕ) → ((i : ℕ) → f i < bound) → (i : ℕ)
    → slice_index (map f (numbers from n)) i < bound
made_small f from zero bound each i = omega (arith, each 0)
made_small f from (suc n) bound each zero = each from
made_small f from (suc n) bound each (suc i) = made_small f (from + 1) n bound each i

-- so they are behind others that are
pub taken_small : (before : List ℕ) (f : ℕ → ℕ) (n bound : ℕ) → ((i : ℕ) → slice_index before i < bound)
    → ((i : ℕ) → f i < bound) → (i : ℕ) → slice_index (before ++ map f (numbers 0 n)) i < bound
taken_small [] f n bound old each i = made_small f 0 n bound each i
taken_small (x ∷ rest) f n bound old each zero = old 0
taken_small (x ∷ rest) f n bound old each (suc i) = taken_small rest f n bound (λ k. old (suc k)) each i
