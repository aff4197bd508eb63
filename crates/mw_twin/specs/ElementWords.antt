-- The terms of the elements of both boards at a block, in the word list.
use Rattle.std.specs.Prelude.{ℕ, ◌+◌, List, ◌++◌, slice_index}
use Rattle.mw_board.specs.declared.parts.BoardParts.{BoardParts}
use Rattle.mw_board.specs.Elements.{element_count}
pub use Rattle.mw_course.specs.Listed.{all_ended}
use Rattle.mw_revise.specs.declared.keep.KeepLine.{KeepLine}
use Rattle.mw_revise.specs.Elements.{line_about}
use Rattle.mw_revise.specs.TwinStartWords.{Maker, all_element_words, new_element_words, old_element_words}
use Rattle.mw_term.specs.WordList.{AllEnded, WordList}

-- what makes the term of an old element
abbrev pub old_maker : List KeepLine → Maker
old_maker lines number width l = old_element_words (line_about lines number) number width l

-- what makes that of a new one
abbrev pub new_maker : BoardParts → List KeepLine → (before : List ℕ) → Maker
new_maker board lines before number width l =
    new_element_words (line_about lines number) (element_count board + number) width (slice_index before number) l

-- behind terms so far, those of elements of some widths, which are numbered from this number on
abbrev pub with_elements : Maker → (number : ℕ) → (widths : List ℕ) → AllEnded → AllEnded
with_elements make number widths so_far =
    let others = all_element_words make number widths so_far.list in
    record { list = others.list; terms = so_far.terms ++ others.terms }
