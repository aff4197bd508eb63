-- The words of the comparison of both sides at the boundary reached, behind those of the segment and of the described
-- step.
use Rattle.std.specs.Prelude.{◌≡◌, ℕ, ◌+◌, List, [], ◌∷◌, ◌++◌, Bool, true, false, not, ◌&&◌, ◌==◌, if◌then◌else◌}
use Rattle.std.specs.Prelude.{Option, Some, None, slice_index}
use Rattle.mw_expr.specs.declared.shape.Shape.{Shape}
use Rattle.mw_macro.specs.ExpressionWords.{expression_words}
use Rattle.mw_rel.specs.Lines.{Line}
use Rattle.mw_rel.specs.Relation.{Boundary}
use Rattle.mw_term.specs.declared.event.SymEvent.{SymEvent}
use Rattle.mw_term.specs.declared.event.SymEvent.TheVariants.{Out, Taken}
use Rattle.mw_term.specs.declared.kinds.WordKind.TheVariants.{Probe}
use Rattle.mw_term.specs.declared.op.Op.TheVariants.{Eq}
use Rattle.mw_term.specs.MemoryRead.{Held}
use Rattle.mw_term.specs.Numbered.{IsNumbered}
use Rattle.mw_term.specs.WordList.{WordList, with_variable, with_word, memory_read_words}

-- Both sides where a segment and a described step end: the events of each, the terms of all elements by number, the
-- writes of each, and the board's stack pointer.
pub record Sides : Type 0 where
  pub board_events : List SymEvent
  pub machine_events : List SymEvent
  pub elements : List ℕ
  pub board_writes : List Held
  pub machine_writes : List Held
  pub sp : ℕ

-- What a comparison is of: the events of a number, from 0; the element on a line's left side; or the memory, at the
-- address that a variable's term stands for.
pub data Subject : Type 0 where
  event : (number : ℕ) → Subject
  line : (element : ℕ) → Subject
  memory : (address : ℕ) → Subject

-- a comparison: of what, the term of one bit that says whether both sides are equal there, and the list up to it
pub record Comparison : Type 0 where
  pub subject : Subject
  pub term : ℕ
  pub list : WordList

-- a list, and the comparisons so far
pub record Compared : Type 0 where
  pub list : WordList
  pub comparisons : List Comparison

-- this list with these comparisons
abbrev pub compared_in : WordList → List Comparison → Compared
compared_in list comparisons = record { list = list; comparisons = comparisons }

-- one comparison more: whether two terms are equal
abbrev pub with_comparison : Subject → (a b : ℕ) → Compared → Compared
with_comparison subject a b so_far =
    let same = with_word (Eq a b) so_far.list in
    compared_in same.list
    (so_far.comparisons ++ record { subject = subject; term = same.term; list = same.list } ∷ [])

-- ---- events

-- two lists have equally many events, which are of the same kinds
abbrev pub are_alike : (board machine : List SymEvent) → Bool
are_alike [] [] = true
are_alike (Out a ∷ board) (Out b ∷ machine) = are_alike board machine
are_alike (Taken a ∷ board) (Taken b ∷ machine) = are_alike board machine
are_alike board machine = false

-- The words put out are compared, pair by pair. The numbers of the pairs are those from one on; inputs that are taken
-- are the same on both sides.
abbrev pub with_events : (number : ℕ) → (board machine : List SymEvent) → Compared → Compared
with_events number (Out a ∷ board) (Out b ∷ machine) so_far =
    with_events (number + 1) board machine (with_comparison (event number) a b so_far)
with_events number (Taken a ∷ board) (Taken b ∷ machine) so_far = with_events (number + 1) board machine so_far
with_events number board machine so_far = so_far

-- ---- lines

-- a line's left element is compared with its right side, where `mem` reads the machine's memory
abbrev pub with_line : Shape → Sides → Line → Compared → Compared
with_line s sides l so_far =
    let right = expression_words s sides.elements sides.machine_writes l.right so_far.list in
    with_comparison (line l.left) (slice_index sides.elements l.left) right.term
    (compared_in right.list so_far.comparisons)

-- the same for lines, one after another
abbrev pub with_lines : Shape → Sides → List Line → Compared → Compared
with_lines s sides [] so_far = so_far
with_lines s sides (l ∷ rest) so_far = with_lines s sides rest (with_line s sides l so_far)

-- ---- the memory

-- the memories are compared at an address that may be any: the board's and then the machine's is read there
abbrev pub with_memory : Shape → Sides → Compared → Compared
with_memory s sides so_far =
    let address = with_variable Probe s.address so_far.list in
    let board = memory_read_words s.word address.term sides.board_writes address.list in
    let machine = memory_read_words s.word address.term sides.machine_writes board.list in
    with_comparison (memory address.term) board.term machine.term (compared_in machine.list so_far.comparisons)

-- ---- the whole

-- every start differs: the events are unlike in number or kind, or the stack pointer isn't the boundary's
abbrev pub is_unlike : Boundary → Sides → Bool
is_unlike boundary sides = not (are_alike sides.board_events sides.machine_events && (sides.sp == boundary.sp))

-- all comparisons in their order: the events, the lines of the boundary reached, the memory
abbrev pub all_compared : Shape → Boundary → Sides → WordList → Compared
all_compared s boundary sides l =
    with_memory s sides
    (with_lines s sides boundary.lines (with_events 0 sides.board_events sides.machine_events (compared_in l [])))

-- the words of a comparison; where every start differs nothing is compared
unfoldable pub comparison_words : Shape → Boundary → Sides → WordList → Option Compared
comparison_words s boundary sides l = if is_unlike boundary sides then None else Some (all_compared s boundary sides l)

-- where each term of a list that is no constant has a word, so it is with the words of a comparison
abbrev pub ComparisonsAreNumbered : Type 0
ComparisonsAreNumbered = (s : Shape) (boundary : Boundary) (sides : Sides) (l : WordList) (c : Compared)
    → IsNumbered l → comparison_words s boundary sides l ≡ Some c → IsNumbered c.list
