-- One Am2901 of four bits, which is a slice of a board's word: logic on single bits, which adds no two words (AMD
-- Am2900 Family Data Book, Am2901).
use Rattle.std.specs.Prelude.{ℕ, ◌+◌, ◌*◌, List, Bool, not, ◌&&◌, ◌||◌, ◌==◌, if◌then◌else◌, slice_set}
use Rattle.mw_base.specs.Words.{num, bit_of, differ}
use Rattle.mw_alu.specs.declared.instruction.Function.{Function}
use Rattle.mw_alu.specs.declared.instruction.Function.TheVariants.{Subr, Subs, Or, And, Notrs, Exor, Exnor}
use Rattle.mw_alu.specs.declared.instruction.Destination.{Destination}
use Rattle.mw_alu.specs.Instruction.{source_of, function_of, destination_of}
use Rattle.mw_alu.specs.declared.edge.Pins.{Pins}
use Rattle.mw_alu.specs.WholeWord.{r_of, s_of, is_sum, y_of, writes_b, b_of, writes_q, q_of}
use Rattle.mw_slice.specs.declared.am2901.SliceOut.{SliceOut}
use Rattle.mw_slice.specs.declared.am2902.Look.{Look}
use Rattle.mw_slice.specs.Lookahead.{looked, group_generate, group_propagate, carry_to, carry_out_of}

-- the addend's bit, of one bit of R: SUBR complements it
abbrev pub r_bit : Function → Bool → Bool
r_bit Subr r = not r
r_bit _ r = r

-- the addend's bit, of one bit of S: SUBS complements it
abbrev pub s_bit : Function → Bool → Bool
s_bit Subs s = not s
s_bit _ s = s

-- g = r and s: bit j generates a carry
abbrev pub generates : Function → ℕ → ℕ → ℕ → Bool
generates function r s j = r_bit function (bit_of r j) && s_bit function (bit_of s j)

-- p = r or s: bit j propagates a carry
abbrev pub propagates : Function → ℕ → ℕ → ℕ → Bool
propagates function r s j = r_bit function (bit_of r j) || s_bit function (bit_of s j)

-- within a slice the carries are looked ahead over its four bits, by the same formulas
abbrev pub over_bits : Function → ℕ → ℕ → Bool → Look
over_bits function r s c = looked (generates function r s) (propagates function r s) c

-- G of a slice; in a function that is no sum it is 0
abbrev pub slice_generate : Function → ℕ → ℕ → Bool
slice_generate function r s = is_sum function && group_generate (generates function r s) (propagates function r s)

-- P of a slice; in a function that is no sum it is 0
abbrev pub slice_propagate : Function → ℕ → ℕ → Bool
slice_propagate function r s = is_sum function && group_propagate (propagates function r s)

-- one bit of F, of one bit of R, one of S and the carry into it
abbrev pub f_bit : Function → Bool → Bool → Bool → Bool
f_bit Or r s c = r || s
f_bit And r s c = r && s
f_bit Notrs r s c = not r && s
f_bit Exor r s c = differ r s
f_bit Exnor r s c = not (differ r s)
f_bit function r s c = differ (differ (r_bit function r) (s_bit function s)) c

-- the word whose bits 0 to 3 these are, each at its place
abbrev pub of_bits : (ℕ → Bool) → ℕ
of_bits bits = num (bits 3) * 8 + num (bits 2) * 4 + num (bits 1) * 2 + num (bits 0)

-- F of a slice, bit by bit
unfoldable pub slice_f : Function → ℕ → ℕ → Bool → ℕ
slice_f function r s c =
    of_bits (λ j. f_bit function (bit_of r j) (bit_of s j) (carry_to (over_bits function r s c) c j))

-- the answers of a slice to one instruction over A, B, Q, D and the carry in
unfoldable pub slice_of : ℕ → ℕ → ℕ → ℕ → ℕ → Bool → SliceOut
slice_of ins a b q d c =
    let function = function_of ins in
    let r = r_of (source_of ins) a d in
    let s = s_of (source_of ins) a b q in
    let carries = over_bits function r s c in
    let f = slice_f function r s c in
    record {
      f = f;
      y = y_of (destination_of ins) a f;
      g = slice_generate function r s;
      p = slice_propagate function r s;
      carry = is_sum function && carry_out_of carries c;
      overflow = is_sum function && differ carries.z (carry_out_of carries c);
      zero = f == 0;
      sign = bit_of f 3;
    }

-- the registers after the edge: the one at the address B takes what the destination gives it
abbrev pub regs_after : Destination → List ℕ → ℕ → ℕ → Pins → List ℕ
regs_after destination regs b f pins =
    if writes_b destination then slice_set regs b (b_of destination 4 f pins) else regs

-- Q after the edge
abbrev pub q_after : Destination → ℕ → ℕ → Pins → ℕ
q_after destination q f pins = if writes_q destination then q_of destination 4 f q pins else q
