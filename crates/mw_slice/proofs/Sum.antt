-- The carries of a board: each is the whole sum's at that bit.
use Rattle.std.proofs.Common.{◌≡◌, ℕ, ◌+◌, ◌*◌, ◌/◌, ◌%◌, ◌^◌, ◌<◌, ◌≤◌, min, arith, refl, ap, ap₂, ◌∙◌, sym, inl, inr}
use Rattle.std.specs.Prelude.{Bool, true, false, ◌&&◌, ◌||◌}
use Rattle.std.proofs.lemmas.Bool.{cases_lt}
use Rattle.std.proofs.lemmas.Nat.{pow_pos, div-mul-add}
use Rattle.mw_base.specs.Carries.{carry_at}
use Rattle.mw_base.specs.Words.{bit_of}
use Rattle.mw_base.proofs.Bits.{bit_of-complement}
use Rattle.mw_base.proofs.Carries.{carry_at-zero, carry_at-suc}
use Rattle.mw_alu.specs.declared.instruction.Source.{Source}
use Rattle.mw_alu.specs.declared.instruction.Source.TheVariants.{Aq, Ab, Zq, Zb, Za, Da, Dq, Dz}
use Rattle.mw_alu.specs.declared.instruction.Function.{Function}
use Rattle.mw_alu.specs.declared.instruction.Function.TheVariants.{Subr, Subs}
use Rattle.mw_alu.specs.WholeWord.{r_of, s_of, addend_r, addend_s}
use Rattle.mw_slice.specs.Lookahead.{looked, group_generate, group_propagate, carry_to}
use Rattle.mw_slice.specs.Slice.{r_bit, s_bit, generates, propagates}
use Rattle.mw_slice.specs.Board.{nibble, over_group, carry_into_group, carry_into_slice}
use Rattle.mw_slice.proofs.Looked.{Carry, carry_to-looked, carry_out-looked}
use Rattle.mw_slice.proofs.Words.{bit_of-nibble}

-- the four bits of 0 are 0
pub nibble-zero : (k : ℕ) → 0 ≡ nibble k 0
nibble-zero k =
    let none : 0 ≡ 0 * 2 ^ (4 * k) + 0 = omega arith in
    sym (ap (λ (x : ℕ). x / 2 ^ (4 * k) % 16) none
    ∙ ap (λ (x : ℕ). x % 16) (div-mul-add 0 (2 ^ (4 * k)) 0 (pow_pos (4 * k))))

-- a slice's operand R is the nibble of the word's
pub r_of-nibble : (source : Source) (k a d : ℕ) → r_of source (nibble k a) (nibble k d) ≡ nibble k (r_of source a d)
r_of-nibble Aq k a d = refl
r_of-nibble Ab k a d = refl
r_of-nibble Zq k a d = nibble-zero k
r_of-nibble Zb k a d = nibble-zero k
r_of-nibble Za k a d = nibble-zero k
r_of-nibble Da k a d = refl
r_of-nibble Dq k a d = refl
r_of-nibble Dz k a d = refl

-- a slice's operand S is the nibble of the word's
pub s_of-nibble : (source : Source) (k a b q : ℕ)
    → s_of source (nibble k a) (nibble k b) (nibble k q) ≡ nibble k (s_of source a b q)
s_of-nibble Aq k a b q = refl
s_of-nibble Ab k a b q = refl
s_of-nibble Zq k a b q = refl
s_of-nibble Zb k a b q = refl
s_of-nibble Za k a b q = refl
s_of-nibble Da k a b q = refl
s_of-nibble Dq k a b q = refl
s_of-nibble Dz k a b q = nibble-zero k

-- the addend's bit for R is a bit of what is added for R
r_bit-addend : (function : Function) (w r i : ℕ)
    → i < w → r < 2 ^ w → r_bit function (bit_of r i) ≡ bit_of (addend_r function w r) i
r_bit-addend Subr w r i below word = sym (bit_of-complement w r i below word)
r_bit-addend _ w r i below word = refl

-- the addend's bit for S is a bit of what is added for S
s_bit-addend : (function : Function) (w s i : ℕ)
    → i < w → s < 2 ^ w → s_bit function (bit_of s i) ≡ bit_of (addend_s function w s) i
s_bit-addend Subs w s i below word = sym (bit_of-complement w s i below word)
s_bit-addend _ w s i below word = refl

-- the carry into bit i of the whole sum
abbrev pub carry : Function → ℕ → ℕ → ℕ → Bool → ℕ → Bool
carry function w r s c i = carry_at (addend_r function w r) (addend_s function w s) c i

-- a sum of two words of w bits, and the slices that take part in it
module _ (function : Function) (w r s : ℕ) (c : Bool) (in_r : r < 2 ^ w) (in_s : s < 2 ^ w) where
  -- the bits of slice k carry as the whole sum does
  pub bits_carry : (k : ℕ) → 4 * k + 4 ≤ w → Carry (generates function (nibble k r) (nibble k s))
      (propagates function (nibble k r) (nibble k s)) (λ j. carry function w r s c (4 * k + j))
  bits_carry k whole = record {
    on = λ j below.
        let within : 4 * k + j < w = omega arith in
        let from_r : r_bit function (bit_of (nibble k r) j) ≡ bit_of (addend_r function w r) (4 * k + j) =
        ap (r_bit function) (bit_of-nibble k r j below) ∙ r_bit-addend function w r (4 * k + j) within in_r in
        let from_s : s_bit function (bit_of (nibble k s) j) ≡ bit_of (addend_s function w s) (4 * k + j) =
        ap (s_bit function) (bit_of-nibble k s j below) ∙ s_bit-addend function w s (4 * k + j) within in_s in
        let next : 4 * k + (j + 1) ≡ 4 * k + j + 1 = omega arith in
        ap (carry function w r s c) next ∙ carry_at-suc (addend_r function w r) (addend_s function w s) c (4 * k + j)
        ∙ sym (ap₂ (λ (x y : Bool). x && y || (x || y) && carry function w r s c (4 * k + j)) from_r from_s);
  }

  -- G and P of slices where those of each of n slices are its sum's, and a missing slice has G = 0 and P = 1
  pub record IsBoard (n : ℕ) (g p : ℕ → Bool) : Type 0 where
    pub whole : 4 * n ≡ w
    pub generate : (k : ℕ) → k < n → g k
        ≡ group_generate (generates function (nibble k r) (nibble k s)) (propagates function (nibble k r) (nibble k s))
    pub propagate : (k : ℕ) → k < n → p k ≡ group_propagate (propagates function (nibble k r) (nibble k s))
    pub no_generate : (k : ℕ) → n ≤ k → g k ≡ false
    pub all_propagate : (k : ℕ) → n ≤ k → p k ≡ true

  module _ (n : ℕ) (g p : ℕ → Bool) (board : IsBoard n g p) where
    -- the carry into slice k, and past the last slice the carry out
    abbrev pub into : ℕ → Bool
    into k = carry function w r s c (4 * min k n)

    slice_step : (k : ℕ) → into (k + 1) ≡ (g k || p k && into k)
    slice_step k = elim (cases_lt k n) [
      | inl below ↦
          let reach : 4 * k + 4 ≤ w = omega (arith, board.whole) in
          let here : 4 * min k n ≡ 4 * k + 0 = omega arith in
          let next : 4 * min (k + 1) n ≡ 4 * k + 4 = omega arith in
          let out = carry_out-looked (generates function (nibble k r) (nibble k s))
          (propagates function (nibble k r) (nibble k s)) (λ (j : ℕ). carry function w r s c (4 * k + j))
          (bits_carry k reach) in
          ap (carry function w r s c) next ∙ sym out ∙ ap (λ (b : Bool).
          group_generate (generates function (nibble k r) (nibble k s)) (propagates function (nibble k r) (nibble k s))
          || group_propagate (propagates function (nibble k r) (nibble k s)) && b)
          (sym (ap (carry function w r s c) here))
          ∙ sym (ap₂ (λ (x y : Bool). x || y && into k) (board.generate k below) (board.propagate k below))
      | inr past ↦
          let same : 4 * min (k + 1) n ≡ 4 * min k n = omega arith in
          ap (carry function w r s c) same
          ∙ sym (ap₂ (λ (x y : Bool). x || y && into k) (board.no_generate k past) (board.all_propagate k past))
    ]

    group_carry : (i : ℕ) → Carry (λ k. g (4 * i + k)) (λ k. p (4 * i + k)) (λ k. into (4 * i + k))
    group_carry i = record {
      on = λ k below. (let next : 4 * i + (k + 1) ≡ 4 * i + k + 1 = omega arith in
          ap into next ∙ slice_step (4 * i + k));
    }

    groups_carry : Carry (λ i. (over_group g p c i).g) (λ i. (over_group g p c i).p) (λ i. into (4 * i))
    groups_carry = record {
      on = λ i below.
          let next : 4 * (i + 1) ≡ 4 * i + 4 = omega arith in
          let here : 4 * i + 0 ≡ 4 * i = omega arith in
          let out = carry_out-looked (λ (k : ℕ). g (4 * i + k)) (λ (k : ℕ). p (4 * i + k)) (λ (k : ℕ). into (4 * i + k))
          (group_carry i) in
          ap into next
          ∙ sym out
          ∙ ap (λ (b : Bool). (over_group g p c i).g || (over_group g p c i).p && b) (ap into here);
    }

    first : c ≡ into (4 * 0)
    first = let none : 4 * min (4 * 0) n ≡ 0 = omega arith in
        sym (ap (carry function w r s c) none ∙ carry_at-zero (addend_r function w r) (addend_s function w s) c)

    -- the carry into a group is the whole sum's
    carry_into_group-whole : (i : ℕ) → i < 4 → carry_into_group g p c i ≡ into (4 * i)
    carry_into_group-whole i below =
        ap (λ (b : Bool).
        carry_to (looked (λ (i : ℕ). (over_group g p c i).g) (λ (i : ℕ). (over_group g p c i).p) b) b i) first
        ∙ carry_to-looked (λ (i : ℕ). (over_group g p c i).g) (λ (i : ℕ). (over_group g p c i).p)
        (λ (i : ℕ). into (4 * i)) groups_carry i below

    -- the carry into a slice is the whole sum's carry into its lowest bit
    pub carry_into_slice-whole : (k : ℕ) → k < n → k < 16 → carry_into_slice g p c k ≡ carry function w r s c (4 * k)
    unfolding carry_into_slice
    carry_into_slice-whole k present below =
        let i : ℕ = k / 4 in
        let j : ℕ = k % 4 in
        let group : i < 4 = omega arith in
        let place : j < 4 = omega arith in
        let start : 4 * i ≡ 4 * i + 0 = omega arith in
        let here : 4 * min (4 * i + j) n ≡ 4 * k = omega arith in
        ap (λ (b : Bool). carry_to (over_group g p b i) b j) (carry_into_group-whole i group ∙ ap into start)
        ∙ carry_to-looked (λ (k : ℕ). g (4 * i + k)) (λ (k : ℕ). p (4 * i + k)) (λ (k : ℕ). into (4 * i + k))
        (group_carry i) j place
        ∙ ap (carry function w r s c) here
