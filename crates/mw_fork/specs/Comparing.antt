-- The comparison of both sides of a case, on terms, on the path of the case.
use Rattle.std.specs.Prelude.{◌≡◌, ◌≢◌, ℕ, List, true, Some, slice_get, slice_index}
use Rattle.mw_expr.specs.declared.shape.Shape.{Shape}
use Rattle.mw_expr.specs.Values.{value}
use Rattle.mw_rel.specs.ComparisonWords.{Compared, Sides, with_events, with_lines, with_memory}
use Rattle.mw_rel.specs.Lines.{Line}
use Rattle.mw_term.specs.declared.event.SymEvent.{SymEvent}
use Rattle.mw_term.specs.Assigned.{Given}
use Rattle.mw_term.specs.Functions.{Function}
use Rattle.mw_term.specs.Values.{term_value}
use Rattle.mw_term.specs.declared.side.Side.TheVariants as sides
use Rattle.mw_symmem.specs.Memory.{FitImage, IsImage, held_by}
use Rattle.mw_symmach.specs.Expressions.{values_at}
use Rattle.mw_space.specs.declared.space.Space.{Space}
pub use Rattle.mw_compare.specs.Comparing.{AreEventsOf, AreOneAtProbe, AreOneOn, ArePutOut, AreTwoAt, AreTwoInMemory}
pub use Rattle.mw_compare.specs.Comparing.{AreWritesOn, Compares, FailsFirst, GoesComparing, HaveCompared}
pub use Rattle.mw_compare.specs.Comparing.{IsComparedKind, IsComparedOver, IsFrontOf, IsOutcome, StopsComparing, word_on}

-- ---- what is compared

-- they have these terms for the elements too
pub record AreSidesOn (elements : List ℕ) (space : Space) (s : Sides) : Type 0 where
  pub elements_are : s.elements ≡ elements
  pub writes : AreWritesOn space s

-- all comparisons behind others: the events, the lines of the boundary reached, the memory
abbrev pub compared_all : Shape → Sides → List Line → (board machine : List SymEvent) → Compared → Compared
compared_all s sides lines board machine so_far =
    with_memory s sides (with_lines s sides lines (with_events 0 board machine so_far))

-- ---- what it says of both sides

-- the value of a line's right side, over the terms of elements and the machine's memory
abbrev pub right_of : Shape → Space → (elements : List ℕ) → Given → (image : List ℕ) → Line → ℕ
right_of s space elements given image line =
    value s (values_at space.terms given elements)
    (held_by space.terms given space.memory sides.Machine image) line.right

-- a line's left element has that value, over each image that the base reads fit
abbrev pub HoldsAt : Shape → Space → (elements : List ℕ) → Given → Line → Type 0
HoldsAt s space elements given line =
    (image : List ℕ) → IsImage space.memory image → FitImage space.terms given space.memory.reads image
    → term_value space.terms given (slice_index elements line.left) ≡ right_of s space elements given image line

-- it has another value, over each such image
abbrev pub FailsAt : Shape → Space → (elements : List ℕ) → Given → Line → Type 0
FailsAt s space elements given line =
    (image : List ℕ) → IsImage space.memory image → FitImage space.terms given space.memory.reads image
    → term_value space.terms given (slice_index elements line.left) ≢ right_of s space elements given image line

-- on a path both sides put out the same words, each line holds, and the memories hold one word at the probe
pub record AreOne (s : Shape) (space : Space) (path : Function) (elements : List ℕ) (lines : List Line)
    (board machine : List SymEvent) : Type 0 where
  pub put : (number a b : ℕ) → ArePutOut board machine number a b → AreOneOn space.terms path a b
  pub hold : (i : ℕ) (line : Line) → slice_get lines i ≡ Some line → (given : Given) → path given ≡ true
      → HoldsAt s space elements given line
  pub memory : AreOneAtProbe space path

-- under an assignment two words put out differ, or a line fails, or the memories hold two words at an address
pub data AreApart (s : Shape) (space : Space) (given : Given) (elements : List ℕ) (lines : List Line)
    (board machine : List SymEvent) : Type 0 where
  put_out : (number a b : ℕ) → ArePutOut board machine number a b → AreTwoAt space.terms given a b
      → AreApart s space given elements lines board machine
  at_line : (i : ℕ) (line : Line) → slice_get lines i ≡ Some line → FailsAt s space elements given line
      → AreApart s space given elements lines board machine
  in_memory : AreTwoInMemory space given → AreApart s space given elements lines board machine
