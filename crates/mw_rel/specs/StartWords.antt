-- The words of a start at a boundary: a variable for each free element, by number, and then the words of each right
-- side, in line order.
use Rattle.std.specs.Prelude.{ℕ, ◌+◌, List, [], ◌∷◌, if◌then◌else◌, slice_set}
use Rattle.mw_expr.specs.declared.shape.Shape.{Shape}
use Rattle.mw_macro.specs.ExpressionWords.{expression_words}
use Rattle.mw_rel.specs.Free.{is_free}
use Rattle.mw_rel.specs.Lines.{Line}
use Rattle.mw_rel.specs.Relation.{Boundary}
use Rattle.mw_term.specs.declared.kinds.WordKind.TheVariants.{Element}
use Rattle.mw_term.specs.Numbered.{IsNumbered}
use Rattle.mw_term.specs.WordList.{WordList, Ended, AllEnded, list_of, with_constant, with_variable}

-- What an element has by itself: a variable, where it is free. Else it is a constant 0 until its line gives it a term;
-- no right side reads it.
abbrev pub own_words : Boundary → (number width : ℕ) → WordList → Ended
own_words boundary number width l =
    if is_free boundary number then with_variable (Element number) width l else with_constant 0 width l

-- the same for elements of some widths, whose numbers are those from one on
abbrev pub all_own_words : Boundary → (number : ℕ) → (widths : List ℕ) → WordList → AllEnded
all_own_words boundary number [] l = record { list = l; terms = [] }
all_own_words boundary number (w ∷ rest) l =
    let first = own_words boundary number w l in
    let others = all_own_words boundary (number + 1) rest first.list in
    record { list = others.list; terms = first.term ∷ others.terms }

-- a line's left element gets the term of its right side, which reads what elements have by themselves, and a memory to
-- which nothing was written
abbrev pub line_words : Shape → (own : List ℕ) → Line → AllEnded → AllEnded
line_words s own line so_far =
    let right = expression_words s own [] line.right so_far.list in
    record { list = right.list; terms = slice_set so_far.terms line.left right.term }

-- the same for lines, one after another
abbrev pub lines_words : Shape → (own : List ℕ) → List Line → AllEnded → AllEnded
lines_words s own [] so_far = so_far
lines_words s own (line ∷ rest) so_far = lines_words s own rest (line_words s own line so_far)

-- the list of a start, and a term for each element of the board and for each register of the machine, by number
unfoldable pub start_words : Shape → Boundary → AllEnded
start_words s boundary =
    let own = all_own_words boundary 0 s.widths (list_of [] [] []) in
    lines_words s own.terms boundary.lines own

-- each term of that list that is no constant has a word
abbrev pub StartsAreNumbered : Type 0
StartsAreNumbered = (s : Shape) (boundary : Boundary) → IsNumbered (start_words s boundary).list
