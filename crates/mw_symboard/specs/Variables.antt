-- The variables of the cycles of a run, and the environments and assignments that go with one another.
use Rattle.std.specs.Prelude.{◌≡◌, ◌≢◌, ℕ, ◌+◌, ◌%◌, ◌^◌, ◌<◌, ◌++◌, List, length, true, Some}
use Rattle.mw_board.specs.declared.parts.BoardParts.{BoardParts}
use Rattle.mw_cycle.specs.SteadyEnvironment.{Environment, IsEnvironment}
use Rattle.mw_term.specs.declared.kinds.WordKind.{WordKind}
use Rattle.mw_term.specs.declared.side.Side.{Side}
use Rattle.mw_term.specs.declared.word.Word.{Word}
use Rattle.mw_term.specs.Assigned.{Given}
use Rattle.mw_term.specs.Table.{Table, IsTable}
use Rattle.mw_term.specs.Values.{term_value}
use Rattle.mw_term.specs.WordList.{term_of}
use Rattle.mw_symmem.specs.Memory.{Memory, IsOfWidth}
use Rattle.mw_symmem.specs.Words.{AreOf, HaveOwnKinds, IsVariable}
use Rattle.mw_symmem.specs.Workspace.{HaveKinds, IsLater}
use Rattle.mw_symboard.specs.declared.reading.Reading.{Reading}
use Rattle.mw_cycle.specs.SteadySeries.{Series}
use Rattle.mw_cycle.specs.SteadySeries.{goes_by_cycle, kind_of, width_of}
use Rattle.mw_symboard.specs.Kinds.{AreInputs, HaveWidths}
use Rattle.mw_symboard.specs.Laws.{IsEnvironmentOf}
use Rattle.mw_symboard.specs.Turns.{Symbolic, AreNoLater, IsSymbolic}

-- The variables of the board of a side have the widths of their lists, and there are none of cycles from a number on.
pub record HaveVariables (side : Side) (board : BoardParts) (t : Table) (words : List Word) (cycles : ℕ) : Type 0 where
  pub widths : HaveWidths side board t words
  pub none : AreNoLater side cycles words

-- Of a board on terms there is a number of cycles that is beyond those of all its variables.
abbrev pub CyclesAreThere : Type 0
CyclesAreThere =
    (board : BoardParts) (store : List ℕ) (t : Table) (words : List Word) (m : Memory) (o : Symbolic)
    → IsSymbolic board store t words m o → (cycles : ℕ) × HaveVariables o.place.side board t words cycles

-- a variable of none of the lists of the board of a side that go by cycle: of an element, a base read or an input, say, or
-- of the other side's board
abbrev pub IsKindOfOthers : Side → WordKind → Type 0
IsKindOfOthers side kind = (series : Series) (n : ℕ) → goes_by_cycle series ≡ true → kind ≢ kind_of side series n

-- So it stays, while only such variables are made.
abbrev pub CyclesStay : Type 0
CyclesStay =
    (side : Side) (board : BoardParts) (told tnew : Table) (wold wnew more : List Word) (cycles : ℕ)
    → IsLater told tnew → wnew ≡ wold ++ more → HaveKinds (IsKindOfOthers side) more → AreInputs board tnew wnew
    → HaveVariables side board told wold cycles → HaveVariables side board tnew wnew cycles

-- A variable has the value that the assignment gives its number, cut to its width.
abbrev pub VariablesHaveValues : Type 0
VariablesHaveValues =
    (t : Table) (words : List Word) (place term : ℕ) (kind : WordKind) (width : ℕ) (given : Given) → IsTable t
    → AreOf t words → IsVariable words place term kind → IsOfWidth t width term
    → term_value t given term ≡ given (place + 1) % 2 ^ width

-- For every assignment there is an environment without waits that has the values of all variables of its lists.
abbrev pub EnvironmentsAreThere : Type 0
EnvironmentsAreThere =
    (side : Side) (board : BoardParts) (t : Table) (words : List Word) (cycles : ℕ) (given : Given) → IsTable t
    → HaveOwnKinds words → HaveVariables side board t words cycles
    → (env : Environment) × IsEnvironmentOf side board t words given env

-- a kind of the variables of the environment of the board of a side: what the outside of a run gives
abbrev pub IsOutsideKind : Side → WordKind → Type 0
IsOutsideKind side kind = (series : Series) × (n : ℕ) × (kind ≡ kind_of side series n)

-- a number of a list is that of a variable of that environment
pub record IsOutsideNumber (side : Side) (words : List Word) (n : ℕ) : Type 0 where
  pub place : ℕ
  pub term : ℕ
  pub kind : WordKind
  pub number : n ≡ place + 1
  pub is : IsVariable words place term kind
  pub outside : IsOutsideKind side kind

-- For every assignment and every environment without waits there is a second assignment of which it is an environment,
-- and which differs from the first in the variables of environments alone.
abbrev pub EnvironmentsAreReached : Type 0
EnvironmentsAreReached =
    (side : Side) (board : BoardParts) (t : Table) (words : List Word) (cycles : ℕ) (given : Given) (env : Environment)
    → IsTable t → AreOf t words → HaveOwnKinds words → HaveVariables side board t words cycles → IsEnvironment board env
    → (other : Given) × IsEnvironmentOf side board t words other env
    × ((n : ℕ) → ¬ IsOutsideNumber side words n → other n ≡ given n)

-- An environment of an assignment is one of each other that differs from it in other variables alone.
abbrev pub EnvironmentsStay : Type 0
EnvironmentsStay =
    (side : Side) (board : BoardParts) (t : Table) (words : List Word) (given other : Given) (env : Environment)
    → IsTable t → AreOf t words → ((n : ℕ) → IsOutsideNumber side words n → other n ≡ given n)
    → IsEnvironmentOf side board t words given env → IsEnvironmentOf side board t words other env
