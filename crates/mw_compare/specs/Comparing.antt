-- Comparisons of two runs on terms, on a path.
use Rattle.std.specs.Prelude.{◌≡◌, ◌≢◌, ℕ, List, ◌∷◌, ◌++◌, All, length, true, None, Option, Some, Err, Ok, Result}
use Rattle.std.specs.Prelude.{slice_get, slice_index, unwrap_or}
use Rattle.mw_rel.specs.ComparisonWords.{Compared, Comparison, Sides}
use Rattle.mw_term.specs.declared.event.SymEvent.{SymEvent}
use Rattle.mw_term.specs.declared.event.SymEvent.TheVariants.{Out}
use Rattle.mw_term.specs.declared.kinds.WordKind.{WordKind}
use Rattle.mw_term.specs.declared.kinds.WordKind.TheVariants.{Base, Probe}
use Rattle.mw_term.specs.Assigned.{Given, Numbers}
use Rattle.mw_term.specs.Cofactors.{Agree, HasAtMostCofactors, HasMoreCofactors}
use Rattle.mw_term.specs.Functions.{Function, Triple, made, never}
use Rattle.mw_term.specs.PathWords.{path_zero}
use Rattle.mw_term.specs.Rows.{bit}
use Rattle.mw_term.specs.Table.{IsTable, Table}
use Rattle.mw_term.specs.Values.{term_value}
use Rattle.mw_term.specs.WordList.{WordList, word_number, table_in}
use Rattle.mw_dd.specs.Diagrams.{IsFirst}
use Rattle.mw_blast.specs.Causes.{IsOver}
use Rattle.mw_term.specs.declared.side.Side.TheVariants as sides
use Rattle.mw_symmem.specs.Memory.{FitImage, IsImage, IsOfWidth, held_by}
use Rattle.mw_symmem.specs.Words.{IsVariable}
use Rattle.mw_symmem.specs.Workspace.{GoesOn, KeepsWrites}
use Rattle.mw_symmach.specs.Steps.{event_term}
use Rattle.mw_space.specs.declared.space.Space.{Space}
use Rattle.mw_space.specs.Spaces.{list_of_space}
use Rattle.mw_explore.specs.declared.fault.Fault.TheVariants.{Over}
use Rattle.mw_decide.specs.declared.fault.Place.{Place}
pub use Rattle.mw_decide.specs.Fronts.{IsFrontOf}
use Rattle.mw_decide.specs.Faults.{RunStop}

-- ---- what is listed

-- the path word of a comparison, by the list up to it
abbrev pub word_on : (map : List ℕ) → (path : Function) → Comparison → Triple
word_on map path c = path_zero path (bit (table_in map c.list) c.term 0)

-- Comparisons were made, one after another: none of them can fail on the path, and none is over the budget.
pub record HaveCompared (map : List ℕ) (nodes : ℕ) (space : Space) (path : Function) (so_far : Compared) : Type 0 where
  pub list : so_far.list ≡ list_of_space space
  pub none : All (λ c. Agree (made (word_on map path c)) never) so_far.comparisons
  pub within : All (λ c. HasAtMostCofactors (word_on map path c) nodes) so_far.comparisons

-- The last that was made can fail, and none before it; and these are the first numbers under which it does.
pub record FailsFirst (map : List ℕ) (space : Space) (path : Function) (compared : Compared)
    (numbers : Numbers) : Type 0 where
  pub before : List Comparison
  pub after : List Comparison
  pub at : Comparison
  pub are : compared.comparisons ≡ before ++ at ∷ after
  pub none : All (λ c. Agree (made (word_on map path c)) never) before
  pub list : at.list ≡ list_of_space space
  pub first : IsFirst (made (word_on map path at)) numbers

-- An operation is over the budget at a comparison: of a term of the list, at a bit of it; or, at bit 0, of the
-- comparison's path word, which stands at its term.
pub data IsComparedOver (map : List ℕ) (nodes : ℕ) (space : Space) (path : Function) (c : Comparison) (term j : ℕ)
    : Type 0 where
  in_list : IsOver space.terms term j nodes → IsComparedOver map nodes space path c term j
  at_comparison : c.term ≡ term → j ≡ 0 → HasMoreCofactors (word_on map path c) nodes
      → IsComparedOver map nodes space path c term j

-- the terms of events have so many bits
abbrev pub AreEventsOf : Table → (word : ℕ) → List SymEvent → Type 0
AreEventsOf t word events =
    (number : ℕ) (e : SymEvent) → slice_get events number ≡ Some e → IsOfWidth t word (event_term e)

-- both sides have the writes of a space
pub record AreWritesOn (space : Space) (s : Sides) : Type 0 where
  pub board : s.board_writes ≡ space.memory.board
  pub machine : s.machine_writes ≡ space.memory.machine

-- Why the comparison stops: at a comparison such an operation is over, of the word with this number, or of a constant
-- and then behind the last word; and the list up to the comparison is the beginning of that of the whole.
pub record StopsComparing (map : List ℕ) (nodes : ℕ) (space : Space) (path : Function)
    (compared : Compared) (word j : ℕ)
    : Type 0 where
  pub before : List Comparison
  pub after : List Comparison
  pub at : Comparison
  pub are : compared.comparisons ≡ before ++ at ∷ after
  pub list : at.list ≡ list_of_space space
  pub table : IsTable space.terms
  pub map_is : space.terms.map ≡ map
  pub term : ℕ
  pub named : word ≡ unwrap_or (word_number space.words term) (length space.words)
  pub over : IsComparedOver map nodes space path at term j
  pub front : IsFrontOf (list_of_space space) compared.list

-- What a result says of comparisons: none of them can fail; or one can, and these are the first numbers under which it
-- does; or one stops them, at an operation over the budget. Of want of memory it says nothing.
abbrev pub IsOutcome : (map : List ℕ) → (nodes : ℕ) → Space → (path : Function) → Compared
    → Result (Option Numbers) RunStop → Type 0
IsOutcome map nodes space path compared (Ok None) = HaveCompared map nodes space path compared
IsOutcome map nodes space path compared (Ok (Some numbers)) = FailsFirst map space path compared numbers
IsOutcome map nodes space path compared (Err stop) =
    (place : Place) → stop ≡ Over place → StopsComparing map nodes space path compared place.word place.bit

-- behind any that were made in a space and can't fail, the result is the outcome of those with more behind them
abbrev pub Compares : (nodes : ℕ) → (old new : Space) → (path : Function) → (more : Compared → Compared)
    → Result (Option Numbers) RunStop → Type 0
Compares nodes old new path more result =
    (so_far : Compared) → HaveCompared old.terms.map nodes old path so_far
    → IsOutcome old.terms.map nodes new path (more so_far) result

-- the variables that a comparison makes: of base reads, and the probe
abbrev pub IsComparedKind : WordKind → Type 0
IsComparedKind Probe = Unit {0}
IsComparedKind (Base n) = Unit {0}
IsComparedKind other = ⊥

-- a space goes on while both sides are compared: nothing is written
pub record GoesComparing (old new : Space) : Type 0 where
  pub goes : GoesOn IsComparedKind old.terms new.terms old.words new.words old.memory new.memory
  pub writes : KeepsWrites old.memory new.memory

-- ---- what it says of both sides

-- two terms have one value under each assignment on a path
abbrev pub AreOneOn : Table → (path : Function) → (a b : ℕ) → Type 0
AreOneOn t path a b = (given : Given) → path given ≡ true → term_value t given a ≡ term_value t given b

-- they have two values under an assignment
abbrev pub AreTwoAt : Table → Given → (a b : ℕ) → Type 0
AreTwoAt t given a b = term_value t given a ≢ term_value t given b

-- both sides put out a word at a number
pub record ArePutOut (board machine : List SymEvent) (number a b : ℕ) : Type 0 where
  pub by_board : slice_get board number ≡ Some (Out a)
  pub by_machine : slice_get machine number ≡ Some (Out b)

-- what the memory of the board holds at an address
abbrev pub board_holds : Space → Given → (image : List ℕ) → (address : ℕ) → ℕ
board_holds space given image address = slice_index (held_by space.terms given space.memory sides.Board image) address

-- and those of the machine
abbrev pub machine_holds : Space → Given → (image : List ℕ) → (address : ℕ) → ℕ
machine_holds space given image address =
    slice_index (held_by space.terms given space.memory sides.Machine image) address

-- A probe is there, an address of the memory's width; on the path the memories hold one word there, over each image
-- that the base reads fit.
pub record AreOneAtProbe (space : Space) (path : Function) : Type 0 where
  pub place : ℕ
  pub probe : ℕ
  pub is : IsVariable space.words place probe Probe
  pub wide : IsOfWidth space.terms space.memory.address probe
  pub one : (given : Given) (image : List ℕ) → path given ≡ true → IsImage space.memory image
      → FitImage space.terms given space.memory.reads image
      → board_holds space given image (term_value space.terms given probe)
      ≡ machine_holds space given image (term_value space.terms given probe)

-- under an assignment they hold two at some address
pub record AreTwoInMemory (space : Space) (given : Given) : Type 0 where
  pub address : ℕ
  pub two : (image : List ℕ) → IsImage space.memory image → FitImage space.terms given space.memory.reads image
      → board_holds space given image address ≢ machine_holds space given image address
