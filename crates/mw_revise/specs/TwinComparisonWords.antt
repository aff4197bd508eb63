-- The words of the comparison of both programs, where both first segments have ended at a boundary.
use Rattle.std.specs.Prelude.{ℕ, ◌+◌, List, [], ◌∷◌, Bool, not, ◌==◌, ◌&&◌, if◌then◌else◌, slice_index}
use Rattle.std.specs.Option.{unwrap_or}
use Rattle.mw_board.specs.declared.parts.BoardParts.{BoardParts}
use Rattle.mw_board.specs.Elements.{element_count, element_width}
use Rattle.mw_cycle.specs.BoardTerms.{Standing}
use Rattle.mw_rel.specs.CaseWords.{terms_with}
use Rattle.mw_rel.specs.ComparisonWords as compares
use Rattle.mw_rel.specs.ComparisonWords.{Compared, Sides, are_alike, compared_in, with_comparison, with_events}
use Rattle.mw_rel.specs.ComparisonWords.{with_memory}
use Rattle.mw_revise.specs.declared.keep.Block.{Block}
use Rattle.mw_revise.specs.declared.keep.KeepLine.{KeepLine}
use Rattle.mw_revise.specs.declared.keep.KeepLine.TheVariants.{Equal, Fixed}
use Rattle.mw_revise.specs.TwinStartWords.{widths_of}
use Rattle.mw_term.specs.WordList.{WordList, with_constant}

-- what is compared: the events and the writes of both, and the terms of the old elements before those of the new ones
abbrev pub twin_sides : BoardParts → (old_ended new_ended : Standing) → Sides
twin_sides board old_ended new_ended = record {
  board_events = old_ended.events;
  machine_events = new_ended.events;
  elements = terms_with board old_ended.parts (terms_with board new_ended.parts []);
  board_writes = old_ended.writes;
  machine_writes = new_ended.writes;
  sp = old_ended.sp;
}

-- ---- lines

-- the term of an old element
abbrev pub old_term : List ℕ → (number : ℕ) → ℕ
old_term terms number = slice_index terms number

-- the term of a new element
abbrev pub new_term : BoardParts → List ℕ → (number : ℕ) → ℕ
new_term board terms number = slice_index terms (element_count board + number)

-- whether an element with a term has a value
abbrev pub with_value : BoardParts → (element term value : ℕ) → Compared → Compared
with_value board element term value so_far =
    let constant = with_constant value (unwrap_or (element_width board element) 0) so_far.list in
    with_comparison (compares.line element) term constant.term (compared_in constant.list so_far.comparisons)

-- a kept element's two values are compared; a fixed one's old value with OLD, and then its new value with NEW
abbrev pub with_keep_line : BoardParts → (terms : List ℕ) → KeepLine → Compared → Compared
with_keep_line board terms (Equal element) so_far =
    with_comparison (compares.line element) (old_term terms element) (new_term board terms element) so_far
with_keep_line board terms (Fixed element old_value new_value) so_far =
    with_value board element (new_term board terms element) new_value
    (with_value board element (old_term terms element) old_value so_far)

-- the same for lines, one after another
abbrev pub with_keep_lines : BoardParts → (terms : List ℕ) → List KeepLine → Compared → Compared
with_keep_lines board terms [] so_far = so_far
with_keep_lines board terms (line ∷ rest) so_far =
    with_keep_lines board terms rest (with_keep_line board terms line so_far)

-- ---- the whole

-- every twin start differs: the events are unlike in number or kind, the new program isn't at the boundary that the old
-- one has reached, or a stack pointer isn't the boundary's
abbrev pub are_unlike : Block → (old_ended new_ended : Standing) → Bool
are_unlike reached old_ended new_ended =
    not (are_alike old_ended.events new_ended.events && ((new_ended.at == reached.after)
    && ((old_ended.sp == reached.sp) && (new_ended.sp == reached.sp))))

-- all comparisons in their order: the events, the lines of the boundary reached, the memory
abbrev pub all_twin_compared : BoardParts → (lines : List KeepLine) → Sides → WordList → Compared
all_twin_compared board lines sides l =
    with_memory (record { widths = widths_of board; address = board.address; word = board.width }) sides
    (with_keep_lines board sides.elements lines
    (with_events 0 sides.board_events sides.machine_events (compared_in l [])))

-- the words of the comparison at the boundary that the old program has reached; where every twin start differs nothing
-- is compared
unfoldable pub twin_comparison_words : BoardParts → Block → (old_ended new_ended : Standing) → WordList → Compared
twin_comparison_words board reached old_ended new_ended l =
    if are_unlike reached old_ended new_ended then compared_in l []
    else all_twin_compared board reached.lines (twin_sides board old_ended new_ended) l
