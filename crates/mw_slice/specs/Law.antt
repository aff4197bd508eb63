-- The law of the lookahead: at every width of whole slices the joined slices are the Am2901 of the whole word.
use Rattle.std.specs.Prelude.{ℕ, ◌≡◌, ◌<◌, ◌≤◌, ◌*◌, ◌/◌, ◌%◌, ◌^◌, Bool, true}
use Rattle.mw_base.specs.Carries.{carry_at}
use Rattle.mw_alu.specs.declared.edge.Pins.{Pins}
use Rattle.mw_alu.specs.Instruction.{source_of, function_of}
use Rattle.mw_alu.specs.WholeWord.{r_of, s_of, is_sum, addend_r, addend_s, alu_of, shift_of}
use Rattle.mw_slice.specs.Board.{carry_into_slice, generate_at, propagate_at, sliced_of, sliced_shift_of}

-- a width of one to eight whole slices
pub record IsBoardWidth (w : ℕ) : Type 0 where
  pub whole : w % 4 ≡ 0
  pub least : 4 ≤ w
  pub most : w ≤ 32

-- the words at the ports have that width
pub record HasWords (w a b q d : ℕ) : Type 0 where
  pub a_in : a < 2 ^ w
  pub b_in : b < 2 ^ w
  pub q_in : q < 2 ^ w
  pub d_in : d < 2 ^ w

-- the carry into bit j of the sum that an instruction makes
abbrev pub whole_carry : ℕ → ℕ → ℕ → ℕ → ℕ → ℕ → Bool → ℕ → Bool
whole_carry w ins a b q d c j =
    let function = function_of ins in
    carry_at (addend_r function w (r_of (source_of ins) a d)) (addend_s function w (s_of (source_of ins) a b q)) c j

-- in a sum each carry that is looked ahead is the whole sum's carry at that bit
abbrev pub CarriesAreWhole : Type 0
CarriesAreWhole = (w ins a b q d : ℕ) (c : Bool)
    → IsBoardWidth w → HasWords w a b q d → is_sum (function_of ins) ≡ true → (k : ℕ) → k < w / 4
    → carry_into_slice (generate_at (w / 4) ins a b q d) (propagate_at (w / 4) ins a b q d) c k
    ≡ whole_carry w ins a b q d c (4 * k)

-- the slices answer as the whole word does: F, Y, carry, overflow, zero and sign
abbrev pub AnswersAreWhole : Type 0
AnswersAreWhole = (w ins a b q d : ℕ) (c : Bool)
    → IsBoardWidth w → HasWords w a b q d → sliced_of w ins a b q d c ≡ alu_of w ins a b q d c

-- and at the edge they write what it writes
abbrev pub EdgesAreWhole : Type 0
EdgesAreWhole = (w ins f q : ℕ) (pins : Pins)
    → IsBoardWidth w → f < 2 ^ w → q < 2 ^ w → sliced_shift_of w ins f q pins ≡ shift_of w ins f q pins
