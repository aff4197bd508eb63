-- A board of one to eight slices: an Am2902 serves four, and a third joins two groups (AMD Am2900 Family Data Book,
-- Am2901 and Am2902). It adds no two words.
use Rattle.std.specs.Prelude.{ℕ, zero, suc, ◌+◌, ◌-◌, ◌*◌, ◌/◌, ◌%◌, Bool, true, false, ◌&&◌, ◌==◌, nat_lt}
use Rattle.std.specs.Prelude.{if◌then◌else◌}
use Rattle.mw_base.specs.Words.{bit_of, part, join}
use Rattle.mw_alu.specs.declared.answer.AluOut.{AluOut}
use Rattle.mw_alu.specs.declared.edge.Pins.{Pins}
use Rattle.mw_alu.specs.declared.edge.ShiftOut.{ShiftOut}
use Rattle.mw_alu.specs.Instruction.{function_of, destination_of}
use Rattle.mw_alu.specs.WholeWord.{is_sum, writes_b, b_of, writes_q, q_of}
use Rattle.mw_slice.specs.declared.am2901.SliceOut.{SliceOut}
use Rattle.mw_slice.specs.declared.am2902.Look.{Look}
use Rattle.mw_slice.specs.Lookahead.{looked, carry_to}
use Rattle.mw_slice.specs.Slice.{slice_of}

-- the four bits of a word that slice k has
abbrev pub nibble : ℕ → ℕ → ℕ
nibble k x = part (4 * k) 4 x

-- the word of n slices, from the four bits of each
unfoldable pub joined : (ℕ → ℕ) → ℕ → ℕ
joined nibbles zero = 0
joined nibbles (suc n) = join (4 * n) (nibbles n) (joined nibbles n)

-- a line that is high where each of n slices leaves it high, as their open outputs tied together
unfoldable pub wired_and : (ℕ → Bool) → ℕ → Bool
wired_and lines zero = true
wired_and lines (suc n) = wired_and lines n && lines n

-- the Am2902 of group i, over the slices 4i to 4i + 3
abbrev pub over_group : (ℕ → Bool) → (ℕ → Bool) → Bool → ℕ → Look
over_group g p c i = looked (λ k. g (4 * i + k)) (λ k. p (4 * i + k)) c

-- the Am2902 that joins the groups, over the G and P of each
abbrev pub over_groups : (ℕ → Bool) → (ℕ → Bool) → Bool → Look
over_groups g p c = looked (λ i. (over_group g p c i).g) (λ i. (over_group g p c i).p) c

-- the carry into group i, from the Am2902 that joins them
abbrev pub carry_into_group : (ℕ → Bool) → (ℕ → Bool) → Bool → ℕ → Bool
carry_into_group g p c i = carry_to (over_groups g p c) c i

-- the carry into slice k, from the Am2902 of its group
unfoldable pub carry_into_slice : (ℕ → Bool) → (ℕ → Bool) → Bool → ℕ → Bool
carry_into_slice g p c k =
    let c = carry_into_group g p c (k / 4) in
    carry_to (over_group g p c (k / 4)) c (k % 4)

-- the answers of slice k of a board
abbrev pub slice_at : ℕ → ℕ → ℕ → ℕ → ℕ → ℕ → Bool → SliceOut
slice_at ins a b q d k c = slice_of ins (nibble k a) (nibble k b) (nibble k q) (nibble k d) c

-- G of slice k of n, which is the same with any carry in; a missing slice has 0
abbrev pub generate_at : ℕ → ℕ → ℕ → ℕ → ℕ → ℕ → ℕ → Bool
generate_at n ins a b q d k = if nat_lt k n then (slice_at ins a b q d k false).g else false

-- P of slice k of n, which is the same with any carry in; a missing slice has 1
abbrev pub propagate_at : ℕ → ℕ → ℕ → ℕ → ℕ → ℕ → ℕ → Bool
propagate_at n ins a b q d k = if nat_lt k n then (slice_at ins a b q d k false).p else true

-- the answers of n slices to one instruction, from the carry into each: carry, overflow and sign are the top slice's
unfoldable pub answers_of : ℕ → ℕ → ℕ → ℕ → ℕ → ℕ → (ℕ → Bool) → AluOut
answers_of n ins a b q d into =
    let slices = λ (k : ℕ). slice_at ins a b q d k (into k) in
    let top = slices (n - 1) in
    record {
      f = joined (λ k. (slices k).f) n;
      y = joined (λ k. (slices k).y) n;
      carry = top.carry;
      overflow = top.overflow;
      defined = is_sum (function_of ins);
      zero = wired_and (λ k. (slices k).zero) n;
      sign = top.sign;
    }

-- the answers of a board of w bits, whose carries are looked ahead
unfoldable pub sliced_of : ℕ → ℕ → ℕ → ℕ → ℕ → ℕ → Bool → AluOut
sliced_of w ins a b q d c =
    let n = w / 4 in
    answers_of n ins a b q d (carry_into_slice (generate_at n ins a b q d) (propagate_at n ins a b q d) c)

-- the high pin of slice k of n: the lowest bit of the slice above, and at the top the board's
abbrev pub high_pin : ℕ → ℕ → Bool → ℕ → Bool
high_pin n x high k = if k + 1 == n then high else bit_of x (4 * k + 4)

-- the low pin of slice k: the highest bit of the slice below, and at the bottom the board's
abbrev pub low_pin : ℕ → Bool → ℕ → Bool
low_pin x low k = if k == 0 then low else bit_of x (4 * k - 1)

-- the pins of slice k of n
abbrev pub pins_at : ℕ → ℕ → ℕ → Pins → ℕ → Pins
pins_at n f q pins k = record {
  ram_high = high_pin n f pins.ram_high k;
  ram_low = low_pin f pins.ram_low k;
  q_high = high_pin n q pins.q_high k;
  q_low = low_pin q pins.q_low k;
}

-- what n slices write at the edge
unfoldable pub edges_of : ℕ → ℕ → ℕ → ℕ → Pins → ShiftOut
edges_of n ins f q pins =
    let destination = destination_of ins in
    record {
      write_b = writes_b destination;
      b = joined (λ k. b_of destination 4 (nibble k f) (pins_at n f q pins k)) n;
      write_q = writes_q destination;
      q = joined (λ k. q_of destination 4 (nibble k f) (nibble k q) (pins_at n f q pins k)) n;
    }

-- what a board of w bits writes at the edge
unfoldable pub sliced_shift_of : ℕ → ℕ → ℕ → ℕ → Pins → ShiftOut
sliced_shift_of w ins f q pins = edges_of (w / 4) ins f q pins
