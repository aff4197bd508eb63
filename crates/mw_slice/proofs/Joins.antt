-- Words put together slice by slice.
use Rattle.std.proofs.Common.{◌≡◌, ℕ, zero, suc, ◌+◌, ◌-◌, ◌*◌, ◌%◌, ◌^◌, ◌<◌, ◌≤◌, arith, refl, ap, ap₂, ◌∙◌, pow_mono}
use Rattle.std.proofs.Common.{add-one}
use Rattle.std.specs.Prelude.{Bool, true, ◌&&◌}
use Rattle.std.proofs.lemmas.Nat.{pow-add, shl_whole, mul-add-lt}
use Rattle.mw_base.specs.Words.{join}
use Rattle.mw_slice.specs.Lookahead.{line}
use Rattle.mw_slice.specs.Board.{joined, wired_and}
use Rattle.mw_alu.specs.declared.answer.AluOut.{AluOut}
use Rattle.mw_alu.specs.Instruction.{function_of}
use Rattle.mw_alu.specs.WholeWord.{is_sum}
use Rattle.mw_slice.specs.declared.am2901.SliceOut.{SliceOut}
use Rattle.mw_slice.specs.Board.{slice_at, answers_of}
use Rattle.mw_slice.specs.Signals.{eight_of}

-- the new word is as wide as its slices
pub join_below : (k four word : ℕ) → word < 2 ^ (4 * k) → four < 16 → four * 2 ^ (4 * k) + word < 2 ^ (4 * (k + 1))
join_below k four word word_in four_in =
    let wider : 4 * (k + 1) ≡ 4 + 4 * k = omega arith in
    let size : 2 ^ (4 * (k + 1)) ≡ 16 * 2 ^ (4 * k) = ap (λ (n : ℕ). 2 ^ n) wider ∙ pow-add 2 4 (4 * k) in
    let room : four * 2 ^ (4 * k) + word < 2 ^ (4 * k) * 16 = mul-add-lt four (2 ^ (4 * k)) word 16 four_in word_in in
    omega arith

-- it is below every word of 32 bits
pub join_fits : (k four word : ℕ) → k < 8 → word < 2 ^ (4 * k) → four < 16 → four * 2 ^ (4 * k) + word < 4294967296
join_fits k four word k_in word_in four_in =
    let below = join_below k four word word_in four_in in
    let most : 2 ^ (4 * (k + 1)) ≤ 2 ^ 32 = pow_mono {i = 4 * (k + 1)} {j = 32} (omega arith) in
    omega arith

-- and loses no bit of the slice
pub join_whole : (k four : ℕ) → k < 8 → four < 16 → four * 2 ^ (4 * k) % 4294967296 ≡ four * 2 ^ (4 * k)
join_whole k four k_in four_in = shl_whole four 4 (4 * k) 32 four_in (omega arith)

-- one more slice
pub joined_next : (nibbles : ℕ → ℕ) (k : ℕ) → joined nibbles (k + 1) ≡ join (4 * k) (nibbles k) (joined nibbles k)
unfolding joined
joined_next nibbles k = ap (joined nibbles) (add-one k)

-- one more slice on the line
pub wired_and_next : (lines : ℕ → Bool) (k : ℕ) → wired_and lines (k + 1) ≡ (wired_and lines k && lines k)
unfolding wired_and
wired_and_next lines k = ap (wired_and lines) (add-one k)

-- no slices make 0
pub joined_none : (nibbles : ℕ → ℕ) → joined nibbles 0 ≡ 0
unfolding joined
joined_none nibbles = refl

-- a line without slices is high
pub wired_and_none : (lines : ℕ → Bool) → wired_and lines 0 ≡ true
unfolding wired_and
wired_and_none lines = refl

-- what a loop over the slices needs
pub ruleset slice_by_slice = (joined_next, joined_none, wired_and_next, wired_and_none)

-- the same nibbles make the same word
pub joined-same : (left right : ℕ → ℕ) (n : ℕ) → ((k : ℕ) → k < n → left k ≡ right k) → joined left n ≡ joined right n
unfolding joined
joined-same left right zero same = refl
joined-same left right (suc n) same =
    ap₂ (λ (high low : ℕ). high * 2 ^ (4 * n) + low) (same n (omega arith))
    (joined-same left right n (λ k below. same k (omega arith)))

-- the same lines make the same line
pub wired_and-same : (left right : ℕ → Bool) (n : ℕ)
    → ((k : ℕ) → k < n → left k ≡ right k) → wired_and left n ≡ wired_and right n
unfolding wired_and
wired_and-same left right zero same = refl
wired_and-same left right (suc n) same =
    ap₂ (λ (low high : Bool). low && high) (wired_and-same left right n (λ k below. same k (omega arith)))
    (same n (omega arith))

-- a word of slices is one of their width
pub joined_below : (nibbles : ℕ → ℕ) (n : ℕ) → ((k : ℕ) → k < n → nibbles k < 16) → joined nibbles n < 2 ^ (4 * n)
unfolding joined
joined_below nibbles zero below = omega arith
joined_below nibbles (suc n) below =
    let rest = joined_below nibbles n (λ k in_n. below k (omega arith)) in
    let last : 4 * (n + 1) ≡ 4 * suc n = omega arith in
    rw last at (join_below n (nibbles n) (joined nibbles n) rest (below n (omega arith)))

-- one line of eight
pub line-eight : (lines : ℕ → Bool) (k : ℕ) → k < 8 → line (eight_of lines) k ≡ lines k
line-eight lines zero below = refl
line-eight lines (suc zero) below = refl
line-eight lines (suc (suc zero)) below = refl
line-eight lines (suc (suc (suc zero))) below = refl
line-eight lines (suc (suc (suc (suc zero)))) below = refl
line-eight lines (suc (suc (suc (suc (suc zero))))) below = refl
line-eight lines (suc (suc (suc (suc (suc (suc zero)))))) below = refl
line-eight lines (suc (suc (suc (suc (suc (suc (suc zero))))))) below = refl
line-eight lines (suc (suc (suc (suc (suc (suc (suc (suc k)))))))) below = absurd (omega arith)

-- answers with the same parts are the same
answer_of-parts : {f f' y y' : ℕ} {none none' : Bool} {top top' : SliceOut} (sum : Bool)
    → f ≡ f' → y ≡ y' → none ≡ none' → top ≡ top' → (let out : AluOut = record {
      f = f;
      y = y;
      carry = top.carry;
      overflow = top.overflow;
      defined = sum;
      zero = none;
      sign = top.sign;
    } in
    out)
    ≡ (let out : AluOut = record {
      f = f';
      y = y';
      carry = top'.carry;
      overflow = top'.overflow;
      defined = sum;
      zero = none';
      sign = top'.sign;
    } in
    out)
answer_of-parts sum is_f is_y is_none is_top = rw (is_f, is_y, is_none, is_top) refl

-- the answers of at most eight slices, from the carries in a list of lines
pub answers_of-lines : (n ins a b q d : ℕ) (into : ℕ → Bool)
    → 1 ≤ n → n ≤ 8 → answers_of n ins a b q d (line (eight_of into)) ≡ answers_of n ins a b q d into
unfolding answers_of
answers_of-lines n ins a b q d into some few =
    let at : (k : ℕ) → k < n → slice_at ins a b q d k (line (eight_of into) k) ≡ slice_at ins a b q d k (into k) =
    λ k below. ap (slice_at ins a b q d k) (line-eight into k (omega arith)) in
    let same_f = joined-same (λ (k : ℕ). (slice_at ins a b q d k (line (eight_of into) k)).f)
    (λ (k : ℕ). (slice_at ins a b q d k (into k)).f) n (λ k below. ap (λ (out : SliceOut). out.f) (at k below)) in
    let same_y = joined-same (λ (k : ℕ). (slice_at ins a b q d k (line (eight_of into) k)).y)
    (λ (k : ℕ). (slice_at ins a b q d k (into k)).y) n (λ k below. ap (λ (out : SliceOut). out.y) (at k below)) in
    let same_zero = wired_and-same (λ (k : ℕ). (slice_at ins a b q d k (line (eight_of into) k)).zero)
    (λ (k : ℕ). (slice_at ins a b q d k (into k)).zero) n (λ k below. ap (λ (out : SliceOut). out.zero) (at k below)) in
    answer_of-parts (is_sum (function_of ins)) same_f same_y same_zero (at (n - 1) (omega arith))
