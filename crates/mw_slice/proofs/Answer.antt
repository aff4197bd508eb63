-- The answers of a board of slices are those of the whole word.
use Rattle.std.proofs.Common.{◌≡◌, ℕ, ◌+◌, ◌*◌, ◌^◌, ◌<◌, ◌≤◌, arith, ap, ap₂, ◌∙◌}
use Rattle.std.specs.Prelude.{Bool, true}
use Rattle.std.proofs.lemmas.Nat.{pow_pos}
use Rattle.mw_alu.specs.declared.instruction.Source.{Source}
use Rattle.mw_alu.specs.declared.instruction.Source.TheVariants.{Aq, Ab, Zq, Zb, Za, Da, Dq, Dz}
use Rattle.mw_alu.specs.declared.instruction.Function.{Function}
use Rattle.mw_alu.specs.WholeWord.{r_of, s_of, is_sum, f_of}
use Rattle.mw_slice.specs.Lookahead.{carry_to, carry_out_of}
use Rattle.mw_slice.specs.Slice.{generates, propagates, over_bits, slice_f, f_bit}
use Rattle.mw_slice.specs.Board.{nibble}
use Rattle.mw_slice.proofs.Looked.{carry_to-looked, carry_out-looked}
use Rattle.mw_slice.proofs.Words.{bit_of-nibble, of_bits-nibble}
use Rattle.mw_slice.proofs.Bits.{bit_of-f}
use Rattle.mw_slice.proofs.Sum.{carry, bits_carry}

-- R is a word of the width
pub r_of-below : (source : Source) (w a d : ℕ) → a < 2 ^ w → d < 2 ^ w → r_of source a d < 2 ^ w
r_of-below Aq w a d in_a in_d = in_a
r_of-below Ab w a d in_a in_d = in_a
r_of-below Zq w a d in_a in_d = pow_pos w
r_of-below Zb w a d in_a in_d = pow_pos w
r_of-below Za w a d in_a in_d = pow_pos w
r_of-below Da w a d in_a in_d = in_d
r_of-below Dq w a d in_a in_d = in_d
r_of-below Dz w a d in_a in_d = in_d

-- S is a word of the width
pub s_of-below : (source : Source) (w a b q : ℕ) → a < 2 ^ w → b < 2 ^ w → q < 2 ^ w → s_of source a b q < 2 ^ w
s_of-below Aq w a b q in_a in_b in_q = in_q
s_of-below Ab w a b q in_a in_b in_q = in_b
s_of-below Zq w a b q in_a in_b in_q = in_q
s_of-below Zb w a b q in_a in_b in_q = in_b
s_of-below Za w a b q in_a in_b in_q = in_a
s_of-below Da w a b q in_a in_b in_q = in_a
s_of-below Dq w a b q in_a in_b in_q = in_q
s_of-below Dz w a b q in_a in_b in_q = pow_pos w

-- a slice of two words whose carry in, in a sum, is the whole sum's
module _ (function : Function) (w r s : ℕ) (c : Bool) (in_r : r < 2 ^ w) (in_s : s < 2 ^ w) (k : ℕ)
    (whole : 4 * k + 4 ≤ w)
    (into : Bool) (carried : is_sum function ≡ true → into ≡ carry function w r s c (4 * k)) where
  start : is_sum function ≡ true → into ≡ carry function w r s c (4 * k + 0)
  start sum = let here : 4 * k ≡ 4 * k + 0 = omega arith in carried sum ∙ ap (carry function w r s c) here

  inner : is_sum function ≡ true → (j : ℕ) → j < 4
      → carry_to (over_bits function (nibble k r) (nibble k s) into) into j ≡ carry function w r s c (4 * k + j)
  inner sum j below =
      ap (λ (b : Bool). carry_to (over_bits function (nibble k r) (nibble k s) b) b j) (start sum)
      ∙ carry_to-looked (generates function (nibble k r) (nibble k s)) (propagates function (nibble k r) (nibble k s))
      (λ (j : ℕ). carry function w r s c (4 * k + j)) (bits_carry function w r s c in_r in_s k whole) j below

  -- its carry out is the whole sum's
  pub carry_out-whole : is_sum function ≡ true
      → carry_out_of (over_bits function (nibble k r) (nibble k s) into) into ≡ carry function w r s c (4 * k + 4)
  carry_out-whole sum =
      ap (λ (b : Bool). carry_out_of (over_bits function (nibble k r) (nibble k s) b) b) (start sum)
      ∙ carry_out-looked (generates function (nibble k r) (nibble k s)) (propagates function (nibble k r) (nibble k s))
      (λ (j : ℕ). carry function w r s c (4 * k + j)) (bits_carry function w r s c in_r in_s k whole)

  -- so is the carry into its top bit
  pub carry_into_top-whole : is_sum function ≡ true
      → (over_bits function (nibble k r) (nibble k s) into).z ≡ carry function w r s c (4 * k + 3)
  carry_into_top-whole sum = inner sum 3 (omega arith)

  -- its F is the nibble of the word's
  pub slice_f-whole : slice_f function (nibble k r) (nibble k s) into ≡ nibble k (f_of function w r s c)
  unfolding slice_f
  slice_f-whole = of_bits-nibble _ k (f_of function w r s c) (λ j below.
      let at = carry_to (over_bits function (nibble k r) (nibble k s) into) into j in
      let within : 4 * k + j < w = omega arith in
      ap₂ (λ (x y : Bool). f_bit function x y at) (bit_of-nibble k r j below) (bit_of-nibble k s j below)
      ∙ bit_of-f function w r s c at (4 * k + j) within in_r in_s (λ sum. inner sum j below))
