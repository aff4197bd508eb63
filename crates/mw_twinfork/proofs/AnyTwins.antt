-- At each block there is a twin start, and so there is a case.
use Rattle.std.proofs.Common.{◌≡◌, ℕ, ◌<◌, ◌^◌, List, Option, Some, None, pow_pos, replicate, refl, sym, ap, ◌∙◌, arith}
use Rattle.std.specs.Prelude.{All, IfSome}
use Rattle.std.proofs.lemmas.List.{length-replicate}
use Rattle.mw_board.specs.declared.parts.BoardParts.{BoardParts}
use Rattle.mw_board.specs.Elements.{element_count}
use Rattle.mw_cycle.proofs.SteadyLists.{none_is}
use Rattle.mw_cycle.proofs.Values.{width_is}
use Rattle.mw_cycle.specs.Elements.{bits_of, element, element_of}
use Rattle.mw_cycle.specs.Environment.{Environment, IsEnvironment}
use Rattle.mw_cycle.specs.State.{BoardState}
use Rattle.mw_cycle.specs.SteadyEnvironment.{no_values}
use Rattle.mw_cycle.specs.Thinned.{never_waiting}
use Rattle.mw_macro.proofs.Words.{zero_below}
use Rattle.mw_revise.specs.declared.keep.Block.{Block}
use Rattle.mw_revise.specs.declared.keep.KeepLine.{KeepLine}
use Rattle.mw_revise.specs.declared.keep.KeepLine.TheVariants.{Equal, Fixed}
use Rattle.mw_revise.specs.declared.programs.Side.{Side}
use Rattle.mw_revise.specs.declared.programs.Side.TheVariants.{New, Old}
use Rattle.mw_revise.specs.Elements.{element_in, line_about}
use Rattle.mw_revise.specs.Kept.{IsBlock, IsLine}
use Rattle.mw_revise.specs.Revision.{IsBlockOf, IsRevision, Revision}
use Rattle.mw_revise.specs.Together.{Holds}
use Rattle.mw_revise.specs.TwinBudgets.{IsTwinStartAt}
use Rattle.mw_revise.specs.TwinStart.{TwinStart, start_on}
use Rattle.mw_twin.specs.ElementTerms.{HasValuesBelow}
use Rattle.mw_twin.proofs.ElementLines.{line_fits}
use Rattle.mw_twin.proofs.KeptLines.{all_lines, line_is_about}
use Rattle.mw_twin.proofs.StatesOf.{AreValues, IsMemoryOf, StateWith, state_with}
use Rattle.mw_twin.proofs.TwinStartsThere.{on_both}
use Rattle.mw_twin.proofs.Unwaiting.{line_is, never_waiting_is}

-- ---- the elements

-- the value of an element by the line about it: a fixed one's, and else 0
fixed_on : Side → Option KeepLine → ℕ
fixed_on Old (Some (Fixed element old_value new_value)) = old_value
fixed_on New (Some (Fixed element old_value new_value)) = new_value
fixed_on side about = 0

-- the values of all
abbrev values_on : Side → List KeepLine → ℕ → ℕ
values_on side lines n = fixed_on side (line_about lines n)

below_width : (side : Side) (about : Option KeepLine) (width : ℕ) → IfSome about (HasValuesBelow (2 ^ width))
    → fixed_on side about < 2 ^ width
unfolding fixed_on
below_width Old None width fits = omega (arith, pow_pos width)
below_width New None width fits = omega (arith, pow_pos width)
below_width Old (Some (Equal element)) width fits = omega (arith, pow_pos width)
below_width New (Some (Equal element)) width fits = omega (arith, pow_pos width)
below_width Old (Some (Fixed element old_value new_value)) width fits = fits.0
below_width New (Some (Fixed element old_value new_value)) width fits = fits.1

are_values : (side : Side) (board : BoardParts) (block : Block) → IsBlock board block
    → AreValues board (values_on side block.lines)
are_values side board block is n below =
    let width = bits_of board (element_of board n) in
    below_width side (line_about block.lines n) width
    (line_fits board block.lines n width is.lines (width_is board n below))

-- ---- the states

module _ (board : BoardParts) (lines : List KeepLine) (before after : BoardState)
    (old_has : (n : ℕ) → n < element_count board → element board before n ≡ values_on Old lines n)
    (new_has : (n : ℕ) → n < element_count board → element board after n ≡ values_on New lines n) where
  line_holds : (line : KeepLine) → IsLine board line → line_about lines (element_in line) ≡ Some line
      → Holds board before after line
  unfolding fixed_on
  line_holds (Equal number) below found =
      old_has number below ∙ ap (fixed_on Old) found ∙ sym (new_has number below ∙ ap (fixed_on New) found)
  line_holds (Fixed number old_value new_value) is found =
      (old_has number is.0 ∙ ap (fixed_on Old) found, new_has number is.0 ∙ ap (fixed_on New) found)

-- each line holds
lines_hold : (board : BoardParts) (block : Block) (before after : BoardState) → IsBlock board block
    → ((n : ℕ) → n < element_count board → element board before n ≡ values_on Old block.lines n)
    → ((n : ℕ) → n < element_count board → element board after n ≡ values_on New block.lines n)
    → All (Holds board before after) block.lines
lines_hold board block before after is old_has new_has =
    all_lines (Holds board before after) block.lines is.once
    (λ line found. line_holds board block.lines before after old_has new_has line
    (line_is_about (IsLine board) block.lines (element_in line) line is.lines found).holds found)

-- ---- the start

-- a memory of zeros
abbrev zeros_of : BoardParts → List ℕ
zeros_of board = replicate (2 ^ board.address) 0

zeros_are : (board : BoardParts) → IsMemoryOf board (zeros_of board)
zeros_are board = record {
  size = length-replicate {A = ℕ} (2 ^ board.address) 0;
  words = λ i. zero_below (2 ^ board.address) i board.width;
}

-- an environment of nothing
abbrev nothing_given : Environment
nothing_given = never_waiting no_values

-- there is a twin start
pub some_twins : (revision : Revision) (block : Block) → IsRevision revision → IsBlockOf revision block
    → IsBlock revision.board block → (twins : TwinStart) × IsTwinStartAt revision block twins
some_twins revision block is of fits =
    let board = revision.board in
    let few = is.board.few_flipflops in
    let before : StateWith board (values_on Old block.lines) block.before block.sp (zeros_of board) =
    state_with board (values_on Old block.lines) block.before block.sp (zeros_of board) few
    (are_values Old board block fits) fits.before fits.sp (zeros_are board) in
    let after : StateWith board (values_on New block.lines) block.after block.sp (zeros_of board) =
    state_with board (values_on New block.lines) block.after block.sp (zeros_of board) few
    (are_values New board block fits) fits.after fits.sp (zeros_are board) in
    let env = never_waiting_is board no_values (none_is board) in
    let twins : TwinStart = record {
      block = block;
      before = record { state = before.state; env = nothing_given };
      after = record { state = after.state; env = nothing_given };
    } in (
      twins,
      record {
        begins = record {
          are = record {
            block = of;
            together = record {
              old_fits = before.fits;
              new_fits = after.fits;
              old_at = before.at_is;
              new_at = after.at_is;
              old_sp = before.sp_is;
              new_sp = after.sp_is;
              lines = lines_hold board block before.state after.state fits before.elements after.elements;
              memory = before.memory_is ∙ sym after.memory_is;
            };
            environments = on_both (λ side. IsEnvironment board (start_on side twins).env) env env;
            inputs = refl;
          };
          line = line_is board revision.before nothing_given before.state refl
              ∙ sym (line_is board revision.after nothing_given after.state refl);
        };
        there = refl;
      },
    )
