-- What is in range: words, what a list's control chooses, and the flip-flops as a number.
use Rattle.std.proofs.Common.{◌≡◌, ℕ, ◌+◌, ◌*◌, ◌%◌, ◌^◌, ◌<◌, ◌≤◌, List, length, get_or, drop, bit_and, ◌-◌}
use Rattle.std.proofs.Common.{Bool, true, false, inl, inr, refl, sym, ap, ◌∙◌, subst, arith}
use Rattle.std.specs.List.{All}
use Rattle.std.proofs.Math.Pow.{pow_mono}
use Rattle.std.proofs.lemmas.Bool.{cases_lt}
use Rattle.std.proofs.lemmas.List.{get_or_past, drop_all}
use Rattle.std.proofs.lemmas.Grind.{common_steps}
use Rattle.std.proofs.lemmas.Nat.{and_mask, one_shl, pow_pos, shl_whole, pow-add}
use Rattle.mw_base.specs.Words.{num}
use Rattle.mw_base.proofs.Lists.{next}
use Rattle.mw_alu.specs.declared.answer.AluOut.{AluOut}
use Rattle.mw_board.specs.declared.flipflop.FlipFlop.{FlipFlop}
use Rattle.mw_board.specs.declared.parts.BoardParts.{BoardParts}
use Rattle.mw_cycle.specs.declared.microword.Microword.{Microword}
use Rattle.mw_cycle.specs.declared.state.CycleIn.{CycleIn}
use Rattle.mw_cycle.specs.Control.{chosen}
use Rattle.mw_cycle.specs.Cycle.{flip_of, flips_from}
use Rattle.mw_cycle.specs.State.{BoardState}

-- a short word is a word
pub short_below : (x a w : ℕ) → a ≤ w → x < 2 ^ a → x < 2 ^ w
short_below x a w h g = omega (arith, pow_mono h)

-- the low bits of a number are left by a mask of as many ones
pub low_bits_left : (n k : ℕ) → k ≤ 32 → bit_and n (1 * 2 ^ k % 2 ^ 128 - 1) ≡ n % 2 ^ k
low_bits_left n k h = rw (one_shl k 128 (omega arith)) (and_mask n k)

-- a bit is below each power of two but the first
pub bit_below : (b : Bool) (w : ℕ) → 1 ≤ w → num b < 2 ^ w
bit_below true w h = let some = pow_mono h in omega (arith, some)
bit_below false w h = let some = pow_pos w in omega (arith, some)

-- what is chosen from a list of some entries is one of them
pub chosen_is : {A : Type 0} (Is : A → Type 0) (none : A) (entries : List A) (n : ℕ)
    → 1 ≤ length entries → All Is entries → Is (chosen none entries n)
chosen_is Is none entries n some all =
    elim (cases_lt n (length entries)) [
      | inl within ↦ all n (get_or entries 0 none) within
      | inr past ↦ rw (get_or_past entries n (get_or entries 0 none) past) (all 0 none some)
    ]

-- and what was picked from a list that is this one
pub picked_is : {A : Type 0} (Is : A → Type 0) (none : A) (entries list : List A) (n : ℕ) (picked : A)
    → entries ≡ list → picked ≡ chosen none entries n → 1 ≤ length list → All Is list → Is picked
picked_is Is none entries list n picked same is some all =
    subst Is (sym (is ∙ ap (λ xs. chosen none xs n) same)) (chosen_is Is none list n some all)

-- ---- flip-flops

-- a bit put at place n
pub bit_at : (b : Bool) (n : ℕ) → n < 16 → num b * 2 ^ n % 2 ^ 16 ≡ num b * 2 ^ n
bit_at true n h = shl_whole 1 1 n 16 (omega arith) (omega arith)
bit_at false n h = grind (arith, common_steps)

-- the next power of two
twice : (n : ℕ) → 2 ^ (n + 1) ≡ 2 * 2 ^ n
twice n = pow-add 2 n 1 ∙ omega arith

-- a bit at place n, above a number of n bits
pub one_more_bit : (b : Bool) (n flips : ℕ) → flips < 2 ^ n → flips + num b * 2 ^ n < 2 ^ (n + 1)
one_more_bit true n flips h = let power = twice n in omega (arith, power)
one_more_bit false n flips h = let power = twice n in omega (arith, power)

-- so far, and the rest from flip-flop n on, are all flip-flops
pub one_more_flip : (board : BoardParts) (m : Microword) (answer : AluOut) (s : BoardState) (given : CycleIn)
    (fs : List FlipFlop) (f : FlipFlop) (n flips total : ℕ)
    → n < length fs → f ≡ get_or fs n f → flips + 2 ^ n * flips_from board m answer s given n (drop n fs) ≡ total
    → flips + num (flip_of board m n f answer s given) * 2 ^ n
    + 2 ^ (n + 1) * flips_from board m answer s given (n + 1) (drop (n + 1) fs) ≡ total
unfolding flips_from
one_more_flip board m answer s given fs f n flips total within is so_far =
    let taken : flips_from board m answer s given n (drop n fs)
    ≡ num (flip_of board m n f answer s given) + 2 * flips_from board m answer s given (n + 1) (drop (n + 1) fs) =
    rw (next fs n f within is) refl in
    let all : flips + 2 ^ n
    * (num (flip_of board m n f answer s given) + 2 * flips_from board m answer s given (n + 1) (drop (n + 1) fs))
    ≡ total =
    rw taken at so_far in
    let power = twice n in
    rw power (omega (arith, all))

-- no flip-flop is left
pub no_more_flips : (board : BoardParts) (m : Microword) (answer : AluOut) (s : BoardState) (given : CycleIn)
    (fs : List FlipFlop) (n flips total : ℕ)
    → length fs ≤ n → flips + 2 ^ n * flips_from board m answer s given n (drop n fs) ≡ total → flips ≡ total
unfolding flips_from
no_more_flips board m answer s given fs n flips total past so_far =
    let none : flips_from board m answer s given n (drop n fs) ≡ 0 = rw (drop_all n fs past) refl in
    let all : flips + 2 ^ n * 0 ≡ total = rw none at so_far in
    omega (arith, all)
