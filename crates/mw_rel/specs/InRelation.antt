-- When a state of a board and one of a described machine are in relation at a boundary.
use Rattle.std.specs.Prelude.{◌≡◌, ℕ, List, ◌++◌, map, All, Bool, ◌==◌, slice_index}
use Rattle.mw_board.specs.declared.parts.BoardParts.{BoardParts}
use Rattle.mw_board.specs.Elements.{element_count}
use Rattle.mw_cycle.specs.Boundary.{numbers}
use Rattle.mw_cycle.specs.Elements.{element}
use Rattle.mw_cycle.specs.State.{BoardState, Fits}
use Rattle.mw_expr.specs.Values.{value}
use Rattle.mw_macro.specs.State as machines
use Rattle.mw_macro.specs.State.{MachineState}
use Rattle.mw_rel.specs.Relation.{Boundary}
use Rattle.mw_rel.specs.Job.{Job}
use Rattle.mw_rel.specs.Lines.{Line}

-- a state of the board and one of the described machine
pub record Pair : Type 0 where
  pub board : BoardState
  pub machine : MachineState

-- these two states
abbrev pub pair_of : BoardState → MachineState → Pair
pair_of board machine = record { board = board; machine = machine }

-- the values of all elements, by number: those of the board's, and behind them the machine's registers
abbrev pub values_in : BoardParts → BoardState → (registers : List ℕ) → List ℕ
values_in board s registers = map (element board s) (numbers 0 (element_count board)) ++ registers

-- those of a pair
abbrev pub values_of : BoardParts → Pair → List ℕ
values_of board pair = values_in board pair.board pair.machine.registers

-- the value of the right side of a line, where `mem` reads the described machine's memory
abbrev pub right_value : Job → Pair → Line → ℕ
right_value job pair line = value job.relation.shape (values_of job.board pair) pair.machine.memory line.right

-- a line's left element has the value of its right side
abbrev pub Holds : Job → Pair → Line → Type 0
Holds job pair line = slice_index (values_of job.board pair) line.left ≡ right_value job pair line

-- the test of it
abbrev pub line_holds : Job → Pair → Line → Bool
line_holds job pair line = slice_index (values_of job.board pair) line.left == right_value job pair line

-- each state fits its machine
pub record BothFit (job : Job) (pair : Pair) : Type 0 where
  pub board : Fits job.board pair.board
  pub machine : machines.Fits job.machine pair.machine

-- the board is at the boundary's address and has its stack pointer, and both memories are equal
pub record StandsAt (boundary : Boundary) (pair : Pair) : Type 0 where
  pub at : pair.board.at ≡ boundary.address
  pub sp : pair.board.seq.sp ≡ boundary.sp
  pub memory : pair.board.memory ≡ pair.machine.memory

-- The pair is in relation at the boundary: both states fit, the board is at its address and has its stack pointer,
-- both memories are equal, and each line's left element has the value of its right side.
pub record InRelation (job : Job) (boundary : Boundary) (pair : Pair) : Type 0 where
  pub board_fits : Fits job.board pair.board
  pub machine_fits : machines.Fits job.machine pair.machine
  pub at : pair.board.at ≡ boundary.address
  pub sp : pair.board.seq.sp ≡ boundary.sp
  pub memory : pair.board.memory ≡ pair.machine.memory
  pub lines : All (Holds job pair) boundary.lines
