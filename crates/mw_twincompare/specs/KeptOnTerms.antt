-- Where both segments have ended, on terms: what both boards have in the elements of KEEP lines, and what is compared.
use Rattle.std.specs.Prelude.{◌≡◌, ℕ, List, [], true, Some, slice_get}
use Rattle.mw_board.specs.declared.parts.BoardParts.{BoardParts}
use Rattle.mw_compare.specs.Comparing.{AreOneAtProbe, AreOneOn, ArePutOut, AreTwoAt, AreTwoInMemory}
use Rattle.mw_cycle.specs.BoardTerms.{Parts, term_of_part}
use Rattle.mw_cycle.specs.Elements.{element_of}
use Rattle.mw_rel.specs.CaseWords.{terms_with}
use Rattle.mw_rel.specs.ComparisonWords.{Compared, Sides, with_events, with_memory}
use Rattle.mw_revise.specs.declared.keep.KeepLine.{KeepLine}
use Rattle.mw_revise.specs.declared.keep.KeepLine.TheVariants.{Equal, Fixed}
use Rattle.mw_revise.specs.TwinComparisonWords.{twin_sides, with_keep_lines}
use Rattle.mw_revise.specs.TwinStartWords.{widths_of}
use Rattle.mw_segment.specs.Left.{standing_on}
use Rattle.mw_space.specs.declared.space.Space.{Space}
use Rattle.mw_symboard.specs.Parts.{AreParts}
use Rattle.mw_symboard.specs.Turns.{AreEvents, Symbolic}
use Rattle.mw_term.specs.Assigned.{Given}
use Rattle.mw_term.specs.Functions.{Function}
use Rattle.mw_term.specs.Table.{Table}
use Rattle.mw_term.specs.Values.{term_value}

-- the term of an element, where a board has these parts
abbrev pub term_in : BoardParts → Parts → (number : ℕ) → ℕ
term_in board parts number = term_of_part parts (element_of board number)

-- the terms of the elements of both boards, those of the old one first
abbrev pub terms_of_both : BoardParts → (old_board new_board : Symbolic) → List ℕ
terms_of_both board old_board new_board =
    terms_with board old_board.place.parts (terms_with board new_board.place.parts [])

-- both boards have terms of a table for their elements and their events
pub record HaveTerms (board : BoardParts) (t : Table) (old_board new_board : Symbolic) : Type 0 where
  pub old_parts : AreParts board t old_board.place.parts
  pub new_parts : AreParts board t new_board.place.parts
  pub old_events : AreEvents board t old_board.events
  pub new_events : AreEvents board t new_board.events

-- ---- a line

-- a line holds under an assignment: a kept element has one value on both boards, and a fixed one its value on each
abbrev pub HoldsAt : BoardParts → Table → Given → (old_board new_board : Symbolic) → KeepLine → Type 0
HoldsAt board t given old_board new_board (Equal number) =
    term_value t given (term_in board old_board.place.parts number)
    ≡ term_value t given (term_in board new_board.place.parts number)
HoldsAt board t given old_board new_board (Fixed number old_value new_value) =
    (term_value t given (term_in board old_board.place.parts number) ≡ old_value)
    × (term_value t given (term_in board new_board.place.parts number) ≡ new_value)

-- it does under each assignment on a path
abbrev pub HoldsOn : BoardParts → Table → (path : Function) → (old_board new_board : Symbolic) → KeepLine → Type 0
HoldsOn board t path old_board new_board line =
    (given : Given) → path given ≡ true → HoldsAt board t given old_board new_board line

-- some term has this value under each assignment on a path
abbrev pub HasValueOn : Table → (path : Function) → (term value : ℕ) → Type 0
HasValueOn t path term value = (given : Given) → path given ≡ true → term_value t given term ≡ value

-- ---- all that is compared

-- both sides of a space, where both boards stand behind their segments
abbrev pub sides_of : BoardParts → Space → (old_board new_board : Symbolic) → Sides
sides_of board space old_board new_board =
    twin_sides board (standing_on space old_board) (standing_on space new_board)

-- all comparisons behind others: the events, the lines of the block reached, the memory
abbrev pub compared_behind : BoardParts → List KeepLine → Sides → Compared → Compared
compared_behind board lines sides so_far =
    with_memory (record { widths = widths_of board; address = board.address; word = board.width }) sides
    (with_keep_lines board sides.elements lines (with_events 0 sides.board_events sides.machine_events so_far))

-- On a path both boards put out the same words, and each line holds, by the terms of one space; and by those of another
-- one the memories hold one word at the probe.
pub record AreOne (board : BoardParts) (old new : Space) (path : Function) (old_board new_board : Symbolic)
    (lines : List KeepLine) : Type 0 where
  pub put : (number a b : ℕ) → ArePutOut old_board.events new_board.events number a b → AreOneOn old.terms path a b
  pub hold : (i : ℕ) (line : KeepLine) → slice_get lines i ≡ Some line
      → HoldsOn board old.terms path old_board new_board line
  pub memory : AreOneAtProbe new path

-- under an assignment two words that are put out differ, or a line fails, or the memories hold two words at an address
pub data AreApart (board : BoardParts) (old new : Space) (given : Given) (old_board new_board : Symbolic)
    (lines : List KeepLine) : Type 0 where
  put_out : (number a b : ℕ) → ArePutOut old_board.events new_board.events number a b → AreTwoAt old.terms given a b
      → AreApart board old new given old_board new_board lines
  at_line : (i : ℕ) (line : KeepLine) → slice_get lines i ≡ Some line
      → ¬ HoldsAt board old.terms given old_board new_board line
      → AreApart board old new given old_board new_board lines
  in_memory : AreTwoInMemory new given → AreApart board old new given old_board new_board lines
