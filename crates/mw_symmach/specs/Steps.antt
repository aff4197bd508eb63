-- What a described step is on terms, between two of its statements.
use Rattle.std.specs.Prelude.{◌≡◌, ℕ, ◌+◌, ◌<◌, ◌≤◌, ◌⊎◌, List, length, map, slice_index, slice_get, Some}
use Rattle.mw_base.specs.declared.event.Event.{Event}
use Rattle.mw_base.specs.declared.event.Event.TheVariants as events
use Rattle.mw_expr.specs.declared.shape.Shape.{Shape}
use Rattle.mw_macro.specs.Counts.{own_reads, own_events}
use Rattle.mw_macro.specs.DescribedStep.{Now, now, after}
use Rattle.mw_macro.specs.Statements.{Act}
use Rattle.mw_term.specs.declared.kinds.WordKind.{WordKind}
use Rattle.mw_term.specs.declared.kinds.WordKind.TheVariants.{Base, Input}
use Rattle.mw_term.specs.Assigned.{Given}
use Rattle.mw_term.specs.Table.{Table}
use Rattle.mw_term.specs.Values.{term_value}
use Rattle.mw_term.specs.declared.side.Side.TheVariants.{Machine}
use Rattle.mw_term.specs.declared.event.SymEvent.{SymEvent}
use Rattle.mw_term.specs.declared.event.SymEvent.TheVariants.{Out, Taken}
use Rattle.mw_term.specs.declared.word.Word.{Word}
use Rattle.mw_symmem.specs.Words.{IsVariable}
use Rattle.mw_symmem.specs.Memory.{Memory, IsImage, IsOfWidth, FitImage, held_by}
use Rattle.mw_symmem.specs.Workspace.{GoesOn, IsWorkspace}
use Rattle.mw_symmach.specs.Expressions.{values_at}

-- the terms of the registers, the temporaries and the request, the events so far, and how many inputs were taken
pub record Parts : Type 0 where
  pub values : List ℕ
  pub events : List SymEvent
  pub taken : ℕ

-- these terms, events and inputs taken
abbrev pub parts_of : (values : List ℕ) → List SymEvent → (taken : ℕ) → Parts
parts_of values events taken = record { values = values; events = events; taken = taken }

-- ---- what they stand for

-- the event that an event of terms stands for
abbrev pub event_of : Table → Given → SymEvent → Event
event_of t given (Out term) = events.Out (term_value t given term)
event_of t given (Taken term) = events.Taken (term_value t given term)

-- what there is between two statements of the described step, over an image
abbrev pub now_of : Table → Given → Memory → (image : List ℕ) → Parts → Now
now_of t given m image p =
    now (values_at t given p.values) (held_by t given m Machine image) (map (event_of t given) p.events) p.taken

-- inputs are the values of the variables of inputs that are in the list
abbrev pub AreInputsOf : Table → List Word → Given → (inputs : List ℕ) → Type 0
AreInputsOf t words given inputs =
    (k place term : ℕ) → IsVariable words place term (Input k) → slice_index inputs k ≡ term_value t given term

-- ---- what is kept

-- the term of an event
abbrev pub event_term : SymEvent → ℕ
event_term (Out term) = term
event_term (Taken term) = term

-- a variable that a step adds is of a base read or of an input
abbrev pub IsOfStep : WordKind → Type 0
IsOfStep kind = ((n : ℕ) × (kind ≡ Base n)) ⊎ ((n : ℕ) × (kind ≡ Input n))

-- A term is the variable of an input of this number, and was made with so many bits if it wasn't there.
pub record IsInput (told tnew : Table) (wold wnew : List Word) (width number term : ℕ) : Type 0 where
  pub goes : (m : Memory) → IsWorkspace told wold m → GoesOn IsOfStep told tnew wold wnew m m
  pub place : ℕ
  pub there : IsVariable wnew place term (Input number)
  pub wide : ((k p a : ℕ) → IsVariable wold p a (Input k) → IsOfWidth told width a)
      → (k p a : ℕ) → IsVariable wnew p a (Input k) → IsOfWidth tnew width a

-- There is a term for each element of a shape, as wide as it; the shape's memory is as wide as that of the run; events
-- and the variables of inputs have the width of the memory's words.
pub record Stands (s : Shape) (t : Table) (words : List Word) (m : Memory) (p : Parts) : Type 0 where
  pub workspace : IsWorkspace t words m
  pub address : m.address ≡ s.address
  pub word : m.word ≡ s.word
  pub count : length p.values ≡ length s.widths
  pub each : (i : ℕ) → i < length s.widths → IsOfWidth t (slice_index s.widths i) (slice_index p.values i)
  pub event : (i : ℕ) (e : SymEvent) → slice_get p.events i ≡ Some e → IsOfWidth t s.word (event_term e)
  pub input : (k place term : ℕ) → IsVariable words place term (Input k) → IsOfWidth t s.word term

-- A statement was done on terms: what they stand for is what there is after the statement, for every assignment, every
-- image that the base reads fit, and the inputs that the variables of inputs have as values. The board's writes are
-- what they were.
pub record Acted (s : Shape) (told tnew : Table) (wold wnew : List Word) (mold mnew : Memory) (pold pnew : Parts)
    (act : Act) : Type 0 where
  pub goes : GoesOn IsOfStep told tnew wold wnew mold mnew
  pub stands : Stands s tnew wnew mnew pnew
  pub many : length mnew.reads ≡ length mold.reads + own_reads act
  pub board : mnew.board ≡ mold.board
  pub few : pnew.taken ≤ pold.taken + own_events act
  pub acts : (given : Given) (image inputs : List ℕ) → IsImage mnew image → FitImage tnew given mnew.reads image
      → AreInputsOf tnew wnew given inputs
      → now_of tnew given mnew image pnew ≡ after s inputs 0 act (now_of told given mold image pold)
