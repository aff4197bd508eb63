-- The first boundary among so many cycles is the next boundary of the run.
use Rattle.std.proofs.Common.{◌≡◌, ℕ, zero, suc, ◌+◌, ◌<◌, ◌≤◌, List, Bool, true, false, cond, find, Some, None, refl}
use Rattle.std.proofs.Common.{ap, sym, ◌∙◌, ◌⊎◌, inl, inr, arith}
use Rattle.std.proofs.lemmas.Bool.{cases_order}
use Rattle.mw_cycle.specs.Boundary.{is_named, numbers, first_boundary, IsNextBoundary}

-- n is the first of the numbers from one on, and below another, that passes the test
record IsFirst (test : ℕ → Bool) (from end n : ℕ) : Type 0 where
  least : from ≤ n
  below : n < end
  passes : test n ≡ true
  others : (e : ℕ) → from ≤ e → e < n → test e ≡ false

-- a number from one on that isn't it comes after it
from_order : (from k : ℕ) → from ≤ k → (from < k) ⊎ (k < from) → from + 1 ≤ k
from_order from k h (inl order) = omega arith
from_order from k h (inr order) = omega arith

-- no number passes from one on, and below another
abbrev NonePasses : (ℕ → Bool) → ℕ → ℕ → Type 0
NonePasses test from end = (e : ℕ) → from ≤ e → e < end → test e ≡ false

-- what is found at the first number, or after it
found_at : (test : ℕ → Bool) (from count n : ℕ) (b : Bool)
    → test from ≡ b → cond b (Some from) (find test (numbers (from + 1) count)) ≡ Some n
    → (find test (numbers (from + 1) count) ≡ Some n → IsFirst test (from + 1) (from + 1 + count) n)
    → IsFirst test from (from + suc count) n
found_at test from count n true here e rest =
    let same : from ≡ n = cc in
    record {
      least = omega arith;
      below = omega arith;
      passes = ap test (sym same) ∙ here;
      others = λ k h g. absurd (omega arith);
    }
found_at test from count n false here e rest =
    let later = rest e in
    record {
      least = omega arith;
      below = omega arith;
      passes = later.passes;
      others = λ k h g. elim (cases_order from k) [
        | inl same ↦ ap test (sym same) ∙ here
        | inr order ↦ later.others k (from_order from k h order) g
      ];
    }

-- the first number that passes is found
found : (test : ℕ → Bool) (from count n : ℕ)
    → find test (numbers from count) ≡ Some n → IsFirst test from (from + count) n
found test from zero n e = cc
found test from (suc count) n e = found_at test from count n (test from) refl e (found test (from + 1) count n)

-- none is found at the first number, or after it
none_at : (test : ℕ → Bool) (from count : ℕ) (b : Bool)
    → test from ≡ b → cond b (Some from) (find test (numbers (from + 1) count)) ≡ None
    → (find test (numbers (from + 1) count) ≡ None → NonePasses test (from + 1) (from + 1 + count))
    → NonePasses test from (from + suc count)
none_at test from count true here e rest = cc
none_at test from count false here e rest =
    λ k h g. elim (cases_order from k) [
      | inl same ↦ ap test (sym same) ∙ here
      | inr order ↦ rest e k (from_order from k h order) (omega arith)
    ]

-- where none is found, none passes
none : (test : ℕ → Bool) (from count : ℕ) → find test (numbers from count) ≡ None → NonePasses test from (from + count)
none test from zero e = λ k h g. absurd (omega arith)
none test from (suc count) e = none_at test from count (test from) refl e (none test (from + 1) count)

-- the first boundary is the next one
pub next_boundary : (addresses : List ℕ) (at : ℕ → ℕ) (limit n : ℕ)
    → first_boundary addresses at limit ≡ Some n → IsNextBoundary addresses at 0 n × (n ≤ limit)
next_boundary addresses at limit n e =
    let first = found (λ k. is_named addresses (at k)) 1 limit n e in
    (record { later = first.least; named = first.passes; least = λ k h g. first.others k h g }, omega arith)

-- where it isn't there, none comes so soon
pub no_boundary : (addresses : List ℕ) (at : ℕ → ℕ) (limit : ℕ)
    → first_boundary addresses at limit ≡ None → (e : ℕ) → 0 < e → e ≤ limit → is_named addresses (at e) ≡ false
no_boundary addresses at limit none_found e h g =
    none (λ k. is_named addresses (at k)) 1 limit none_found e h (omega arith)
