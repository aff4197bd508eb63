-- Lists that are made by pushes, one for each number.
use Rattle.std.proofs.Common.{◌≡◌, ℕ, ◌+◌, ◌<◌, List, [], ◌∷◌, ◌++◌, length, map, sym, ap, ap₂, ◌∙◌, inl, inr, arith}
use Rattle.std.specs.Prelude.{slice_index}
use Rattle.std.specs.List.{range_with_len}
use Rattle.std.proofs.Math.Seq.{get_or-append_seam}
use Rattle.std.proofs.lemmas.Bool.{cases_lt}
use Rattle.std.proofs.lemmas.List.{get_or_append_left, length-append}
use Rattle.std.proofs.lemmas.List.FromFn.{map-range_with_len_more}

-- where what the numbers before i give is followed by what i gives, it is what those before i + 1 give
pub pushed : {X : Type 0} (f : ℕ → X) (i : ℕ) (xs : List X) (x : X) → xs ≡ map f (range_with_len 0 i) → x ≡ f i
    → xs ++ x ∷ [] ≡ map f (range_with_len 0 (i + 1))
pushed f i xs x before is =
    ap₂ (λ ys y. ys ++ y ∷ []) before is ∙ sym (map-range_with_len_more f 0 i i (omega arith))

-- where all words of a list are as they are to be at their places, and one is put behind them that is, so are all
pub all_behind : (P : ℕ → ℕ → Type 0) (xs : List ℕ) (n x : ℕ) → length xs ≡ n
    → ((i : ℕ) → i < n → P i (slice_index xs i)) → P n x → (i : ℕ) → i < n + 1 → P i (slice_index (xs ++ x ∷ []) i)
all_behind P xs n x count all one i within = elim (cases_lt i n) [
  | inl before ↦ rw (get_or_append_left xs (x ∷ []) 0 i (rw count before)) (all i before)
  | inr from ↦
      let is : i ≡ length xs = omega (arith, count) in
      rw (is, get_or-append_seam xs x [] 0, count) one
]

-- and they are one more
pub one_more : (xs : List ℕ) (n x : ℕ) → length xs ≡ n → length (xs ++ x ∷ []) ≡ n + 1
one_more xs n x count = length-append xs (x ∷ []) ∙ ap (λ (k : ℕ). k + 1) count
