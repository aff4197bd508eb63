-- What the microwords of a generated job choose.
use Rattle.std.specs.Prelude.{◌≡◌, ◌≢◌, ℕ, ◌+◌, ◌<◌, ◌≤◌, ◌^◌, List, length, slice_index, Bool, true, false}
use Rattle.std.specs.Prelude.{if◌then◌else◌, ◌==◌}
use Rattle.mw_alu.specs.declared.instruction.Destination.{Destination}
use Rattle.mw_alu.specs.declared.instruction.Destination.TheVariants as destinations
use Rattle.mw_alu.specs.declared.instruction.Function.{Function}
use Rattle.mw_alu.specs.declared.instruction.Function.TheVariants as functions
use Rattle.mw_alu.specs.declared.instruction.Source.{Source}
use Rattle.mw_alu.specs.declared.instruction.Source.TheVariants as operands
use Rattle.mw_alu.specs.Instruction.{source_of, function_of, destination_of}
use Rattle.mw_board.specs.declared.bit.Bit.{Bit}
use Rattle.mw_board.specs.declared.bit.Bit.TheVariants.{Zero, One}
use Rattle.mw_board.specs.declared.bit.DFrom.{DFrom}
use Rattle.mw_board.specs.declared.bit.DFrom.TheVariants as sources
use Rattle.mw_board.specs.declared.parts.BoardParts.{BoardParts}
use Rattle.mw_board.specs.Store.{word_at}
use Rattle.mw_cycle.specs.Microword.{points_of}
use Rattle.mw_rel.specs.Job.{Job}
use Rattle.mw_seq.specs.declared.instruction.Instruction.{Instruction}
use Rattle.mw_seq.specs.declared.instruction.Instruction.TheVariants.{Jmap, Cjp, Cont}
use Rattle.mw_seq.specs.Instruction.{instruction_of as sequence_of}
use Rattle.mw_cases.specs.declared.operation.Kind.{Kind}
use Rattle.mw_cases.specs.declared.operation.Kind.TheVariants as kinds
use Rattle.mw_cases.specs.declared.operation.Operation.{Operation}
use Rattle.mw_cases.specs.declared.word.Word.{Word}
use Rattle.mw_cases.specs.Board.{generated_board, first_address}
use Rattle.mw_cases.specs.Operations.{operation_at, operation_count}

-- What a microword chooses: the Am2901's operands, function and destination, its registers A and B, the carry in, D,
-- the Am2910's instruction, the branch address, and whether the test is disabled and `mar` and `ir` are loaded.
pub record Choices : Type 0 where
  pub source : Source
  pub function : Function
  pub destination : Destination
  pub a : ℕ
  pub b : ℕ
  pub carry_in : Bit
  pub d : DFrom
  pub sequencer : Instruction
  pub branch : ℕ
  pub test_disable : Bool
  pub mar_load : Bool
  pub ir_load : Bool

-- what a word chooses on a board
unfoldable pub choices_of : BoardParts → ℕ → Choices
choices_of board word =
    let m = points_of board word in
    record {
      source = source_of m.instruction;
      function = function_of m.instruction;
      destination = destination_of m.instruction;
      a = m.a_address;
      b = m.b_address;
      carry_in = m.carry_in;
      d = m.d.from;
      sequencer = sequence_of m.sequencer;
      branch = m.branch;
      test_disable = m.test_disable;
      mar_load = m.mar_load;
      ir_load = m.ir_load;
    }

-- what a job's word at an address chooses
abbrev pub choices_at : Job → ℕ → Choices
choices_at job address = choices_of job.board (word_at job.board job.store address)

-- ---- the fetch

-- Nothing is written, and the next word follows.
abbrev pub idle : Choices
idle = record {
  source = operands.Dz;
  function = functions.Or;
  destination = destinations.Nop;
  a = 0;
  b = 0;
  carry_in = Zero;
  d = sources.Zero;
  sequencer = Cont;
  branch = 0;
  test_disable = false;
  mar_load = false;
  ir_load = false;
}

-- Address 0: `mar` takes register 15, which is Y, and register 15 takes the sum of itself and 1.
abbrev pub addressing : Choices
addressing = record idle {
  source = operands.Zb;
  function = functions.Add;
  destination = destinations.Rama;
  a = 15;
  b = 15;
  carry_in = One;
  mar_load = true;
}

-- Address 1: `ir` takes the memory's word.
abbrev pub loading : Choices
loading = record idle { d = sources.Memory; ir_load = true }

-- Address 2: the map gives the next address.
abbrev pub mapping : Choices
mapping = record idle { sequencer = Jmap }

-- ---- the operations

-- the Am2901's function of a kind
abbrev pub function_for : Kind → Function
function_for kinds.Add = functions.Add
function_for kinds.Subr = functions.Subr
function_for kinds.Or = functions.Or
function_for kinds.And = functions.And
function_for kinds.Exor = functions.Exor

-- its carry in: 1 for SUBR, so that B - A is made
abbrev pub carry_for : Kind → Bit
carry_for kinds.Subr = One
carry_for other = Zero

-- The operation of registers A and B, which B takes. The last one of an instruction jumps to 0 by CJP with the test
-- disabled; the others go on.
abbrev pub operating : Operation → (is_last : Bool) → Choices
operating operation is_last = record idle {
  source = operands.Ab;
  function = function_for operation.kind;
  destination = destinations.Ramf;
  a = operation.a;
  b = operation.b;
  carry_in = carry_for operation.kind;
  sequencer = if is_last then Cjp else Cont;
  test_disable = is_last;
}

-- what the word of operation j of instruction i chooses
abbrev pub operating_at : (number i j : ℕ) → Choices
operating_at number i j = operating (operation_at number i j) (j + 1 == operation_count number i)

-- ---- what the code keeps

-- what a word of the code chooses
abbrev pub choices_in : Word → Choices
choices_in word = record {
  source = word.source;
  function = word.function;
  destination = word.destination;
  a = word.a;
  b = word.b;
  carry_in = if word.carry_in then One else Zero;
  d = if word.reads_memory then sources.Memory else sources.Zero;
  sequencer = word.sequencer;
  branch = word.branch;
  test_disable = word.test_disable;
  mar_load = word.mar_load;
  ir_load = word.ir_load;
}

-- its registers and its branch address are in range
pub record IsWord (word : Word) : Type 0 where
  pub a : word.a < 16
  pub b : word.b < 16
  pub branch : word.branch < 2 ^ 12

-- a microword of the board, and what it chooses
pub record Chooses (word : ℕ) (choices : Choices) : Type 0 where
  pub below : word < 2 ^ 38
  pub chosen : choices_of generated_board word ≡ choices

-- what stands at an address, for a number: the fetch from address 0 on, each operation of each instruction, and else 0
pub record IsWordAt (number address word : ℕ) : Type 0 where
  pub below : word < 2 ^ 38
  pub addressing : address ≡ 0 → choices_of generated_board word ≡ addressing
  pub loading : address ≡ 1 → choices_of generated_board word ≡ loading
  pub mapping : address ≡ 2 → choices_of generated_board word ≡ mapping
  pub operating : (i j : ℕ) → i < 256 → j < operation_count number i → address ≡ first_address i + j
      → choices_of generated_board word ≡ operating_at number i j
  pub unused : 3 ≤ address
      → ((i j : ℕ) → i < 256 → j < operation_count number i → address ≢ first_address i + j) → word ≡ 0

-- the microwords for a number
pub record IsStore (number : ℕ) (store : List ℕ) : Type 0 where
  pub count : length store ≡ 1040
  pub words : (address : ℕ) → address < 1040 → IsWordAt number address (slice_index store address)
