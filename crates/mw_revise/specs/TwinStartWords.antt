-- The words of a twin start at a block: a variable for each old element that isn't fixed, by number, and then one for
-- each new element that is neither kept nor fixed.
use Rattle.std.specs.Prelude.{ℕ, ◌+◌, List, [], ◌∷◌, map, slice_index, Option, Some, None}
use Rattle.mw_board.specs.declared.parts.BoardParts.{BoardParts}
use Rattle.mw_board.specs.Elements.{element_count, elements_of}
use Rattle.mw_revise.specs.declared.keep.KeepLine.{KeepLine}
use Rattle.mw_revise.specs.declared.keep.KeepLine.TheVariants.{Equal, Fixed}
use Rattle.mw_revise.specs.Elements.{line_about}
use Rattle.mw_term.specs.declared.kinds.WordKind.TheVariants.{Element}
use Rattle.mw_term.specs.WordList.{WordList, Ended, AllEnded, ended, list_of, with_constant, with_variable}

-- an old element, by the line about it: a fixed one is its value, and any other has the variable of its number
abbrev pub old_element_words : Option KeepLine → (number width : ℕ) → WordList → Ended
old_element_words (Some (Fixed element old_value new_value)) number width l = with_constant old_value width l
old_element_words about number width l = with_variable (Element number) width l

-- a new element: a kept one is the old one, whose term this is; a fixed one is its value; and any other has the
-- variable of this number
abbrev pub new_element_words : Option KeepLine → (number width kept : ℕ) → WordList → Ended
new_element_words (Some (Equal element)) number width kept l = ended kept l
new_element_words (Some (Fixed element old_value new_value)) number width kept l = with_constant new_value width l
new_element_words None number width kept l = with_variable (Element number) width l

-- what makes the term of an element of a number and a width
abbrev pub Maker : Type 0
Maker = (number width : ℕ) → WordList → Ended

-- the terms of elements of some widths, which are numbered from this number on
abbrev pub all_element_words : Maker → (number : ℕ) → (widths : List ℕ) → WordList → AllEnded
all_element_words make number [] l = record { list = l; terms = [] }
all_element_words make number (width ∷ rest) l =
    let first = make number width l in
    let others = all_element_words make (number + 1) rest first.list in
    record { list = others.list; terms = first.term ∷ others.terms }

-- the widths of a board's elements, by number
abbrev pub widths_of : BoardParts → List ℕ
widths_of board = map (λ e. e.width) (elements_of board)

-- those of the old elements
abbrev pub all_old_words : BoardParts → List KeepLine → AllEnded
all_old_words board lines =
    all_element_words (λ number width l. old_element_words (line_about lines number) number width l) 0
    (widths_of board) (list_of [] [] [])

-- those of the new elements, whose variables have the numbers behind all old ones
abbrev pub all_new_words : BoardParts → List KeepLine → (old_terms : List ℕ) → WordList → AllEnded
all_new_words board lines old_terms l =
    all_element_words
    (λ number width so_far.
    new_element_words (line_about lines number) (element_count board + number) width (slice_index old_terms number)
    so_far)
    0 (widths_of board) l

-- a list, and the terms of the old and of the new elements, by number
pub record TwinBeginning : Type 0 where
  pub list : WordList
  pub old_terms : List ℕ
  pub new_terms : List ℕ

-- the list of a twin start at a block of these lines
unfoldable pub twin_start_words : BoardParts → List KeepLine → TwinBeginning
twin_start_words board lines =
    let old_words = all_old_words board lines in
    let new_words = all_new_words board lines old_words.terms old_words.list in
    record { list = new_words.list; old_terms = old_words.terms; new_terms = new_words.terms }
