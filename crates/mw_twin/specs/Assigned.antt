-- The twin start that an assignment gives.
use Rattle.std.specs.Prelude.{◌≡◌, ℕ, zero, ◌+◌, ◌<◌, List, [], Option, Some, None, slice_index}
use Rattle.mw_board.specs.declared.parts.BoardParts.{BoardParts}
use Rattle.mw_board.specs.Elements.{element_count}
use Rattle.mw_course.specs.Begins.{kind_value}
use Rattle.mw_cycle.specs.Elements.{element}
use Rattle.mw_cycle.specs.Environment.{Environment, values_of}
use Rattle.mw_cycle.specs.State.{BoardState, Fits}
use Rattle.mw_cycle.specs.SteadySeries.{Series, Line, among_all, kind_of}
use Rattle.mw_cycle.specs.Trimmed.{IsTrimmed}
use Rattle.mw_revise.specs.declared.keep.Block.{Block}
use Rattle.mw_revise.specs.declared.keep.KeepLine.{KeepLine}
use Rattle.mw_revise.specs.declared.keep.KeepLine.TheVariants.{Equal, Fixed}
use Rattle.mw_revise.specs.TwinStart.{TwinStart}
use Rattle.mw_revise.specs.Elements.{line_about}
use Rattle.mw_sim.specs.Start.{Start}
use Rattle.mw_symmem.specs.Memory.{base_word}
use Rattle.mw_term.specs.Assigned.{Given}
use Rattle.mw_term.specs.declared.kinds.WordKind.{WordKind}
use Rattle.mw_term.specs.declared.kinds.WordKind.TheVariants as kinds
use Rattle.mw_term.specs.declared.side.Side.TheVariants.{Board, Machine}
use Rattle.mw_term.specs.Table.{Table}
use Rattle.mw_term.specs.Values.{term_value}
use Rattle.mw_term.specs.WordList.{WordList, table_in}
use Rattle.mw_twin.specs.declared.starts.TwinStarts.{TwinStarts}

-- ---- the states

-- some terms have these values under an assignment, by their numbers
abbrev pub values_under : Table → Given → (terms : List ℕ) → ℕ → ℕ
values_under t given terms n = term_value t given (slice_index terms n)

-- a state that fits a board, stands at an address with a stack pointer and a memory, and whose elements have these values
pub record IsStateWith (board : BoardParts) (values : ℕ → ℕ) (at sp : ℕ) (memory : List ℕ) (state : BoardState)
    : Type 0 where
  pub fits : Fits board state
  pub at_is : state.at ≡ at
  pub sp_is : state.seq.sp ≡ sp
  pub memory_is : state.memory ≡ memory
  pub elements : (n : ℕ) → n < element_count board → element board state n ≡ values n

-- the value of an old element, by the line about it: that of a fixed one, and else that of the variable of its number
abbrev pub old_value : (variable : WordKind → ℕ) → Option KeepLine → (number : ℕ) → ℕ
old_value variable (Some (Fixed element before after)) number = before
old_value variable about number = variable (kinds.Element number)

-- that of a new element: the old one's where it is kept, that of a fixed one, and else that of the variable of this number
abbrev pub new_value : (variable : WordKind → ℕ) → Option KeepLine → (kept number : ℕ) → ℕ
new_value variable (Some (Equal element)) kept number = kept
new_value variable (Some (Fixed element before after)) kept number = after
new_value variable None kept number = variable (kinds.Element number)

-- those of the old elements at a block of these lines, by their numbers
abbrev pub old_values : (variable : WordKind → ℕ) → List KeepLine → ℕ → ℕ
old_values variable lines n = old_value variable (line_about lines n) n

-- those of the new ones, whose variables have the numbers behind all old ones
abbrev pub new_values : BoardParts → (variable : WordKind → ℕ) → List KeepLine → ℕ → ℕ
new_values board variable lines n =
    new_value variable (line_about lines n) (old_values variable lines n) (element_count board + n)

-- ---- the environments

-- the variable of a value of the new program's environment: the first line is the old program's
abbrev pub beside_kind : Series → ℕ → WordKind
beside_kind Line zero = kinds.Line 0
beside_kind series n = kind_of Machine series n

-- each value of an environment is that of its variable
abbrev pub HasLists : (value : WordKind → ℕ) → (kind : Series → ℕ → WordKind) → Environment → Type 0
HasLists value kind env =
    (series : Series) (n : ℕ) → slice_index (values_of env (among_all series)) n ≡ value (kind series n)

-- ---- the starts

-- What an assignment gives one of both programs, by a list: where it begins, the values of its elements and of its
-- variables, the oldest base read at each address and 0 elsewhere, and no waits.
pub record IsSideAssigned (board : BoardParts) (l : WordList) (given : Given) (at sp : ℕ) (values : ℕ → ℕ)
    (kind : Series → ℕ → WordKind) (start : Start) : Type 0 where
  pub at_is : start.state.at ≡ at
  pub sp_is : start.state.seq.sp ≡ sp
  pub elements : (n : ℕ) → n < element_count board → element board start.state n ≡ values n
  pub memory : (address : ℕ)
      → slice_index start.state.memory address ≡ base_word (table_in board.map_entries l) given l.reads address
  pub lists : HasLists (kind_value (table_in board.map_entries l) l given) kind start.env
  pub wait : start.env.wait ≡ []
  pub trimmed : IsTrimmed start.env

-- what it gives both programs at a block
pub record IsTwinAssigned (board : BoardParts) (block : Block) (l : WordList) (given : Given) (starts : TwinStarts)
    : Type 0 where
  pub old_one : IsSideAssigned board l given block.before block.sp
      (old_values (kind_value (table_in board.map_entries l) l given) block.lines) (kind_of Board) starts.before
  pub new_one : IsSideAssigned board l given block.after block.sp
      (new_values board (kind_value (table_in board.map_entries l) l given) block.lines) beside_kind starts.after

-- the twin start of two starts at a block
abbrev pub twins_of : Block → TwinStarts → TwinStart
twins_of block starts = record {
  block = block;
  before = record { state = starts.before.state; env = starts.before.env };
  after = record { state = starts.after.state; env = starts.after.env };
}
