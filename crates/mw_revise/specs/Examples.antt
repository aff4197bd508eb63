-- Worked revisions on the small board, as values on which the definitions compute.
use Rattle.std.specs.Prelude.{ℕ, List, [], ◌∷◌, Bool, true, false, Option, slice_index}
use Rattle.mw_board.specs.Examples.{small_board, small_points}
use Rattle.mw_board.specs.declared.control.Control.TheVariants.{Fixed as FixedPoint}
use Rattle.mw_board.specs.declared.parts.BoardParts.{BoardParts}
use Rattle.mw_cycle.specs.State.{BoardState}
use Rattle.mw_cycle.specs.Environment.{Environment}
use Rattle.mw_ready.specs.Examples.{waiting}
use Rattle.mw_rel.specs.CaseExamples.{goes_to}
use Rattle.mw_rel.specs.Examples.{pair_with}
use Rattle.mw_term.specs.declared.decided.Decided.{Decided}
use Rattle.mw_revise.specs.declared.difference.TwinDifference.{TwinDifference}
use Rattle.mw_revise.specs.declared.keep.Block.{Block}
use Rattle.mw_revise.specs.declared.keep.KeepLine.{KeepLine}
use Rattle.mw_revise.specs.declared.keep.KeepLine.TheVariants.{Equal, Fixed}
use Rattle.mw_revise.specs.declared.programs.Side.{Side}
use Rattle.mw_revise.specs.Revision.{Revision}
use Rattle.mw_revise.specs.TwinCase.{twin_case}
use Rattle.mw_revise.specs.TwinDiffers.{twin_difference}
use Rattle.mw_revise.specs.TwinStart.{TwinStart, run_on}

-- the old program adds A = 1 into B = 0, and then jumps to its boundary at 0
abbrev pub two_words : List ℕ
two_words = 0x3802C1 ∷ 0x4000C0040 ∷ []

-- a new program with this word at 4
abbrev pub at_four : ℕ → List ℕ
at_four word = 0 ∷ 0 ∷ 0 ∷ 0 ∷ word ∷ []

-- it adds A = 1 into B = 0 and jumps to its boundary at 4 in one cycle
abbrev pub adds : List ℕ
adds = at_four 0x4010C02C1

-- it takes their or, and jumps to its boundary
abbrev pub ors : List ℕ
ors = at_four 0x4010C02D9

-- it adds them, pushes, and jumps to its boundary
abbrev pub pushes : List ℕ
pushes = at_four 0x4010402C1

-- it takes their or, pushes, and jumps to its boundary
abbrev pub pushes_and_ors : List ℕ
pushes_and_ors = at_four 0x4010402D9

-- it adds them, and goes on to words that jump to 0
abbrev pub leaves : List ℕ
leaves = at_four 0x3802C1

-- PC is 1 in the old program and 5 in the new one, and the registers 0 and 1 are equal
abbrev pub register_lines : List KeepLine
register_lines = Fixed 19 1 5 ∷ Equal 0 ∷ Equal 1 ∷ []

-- the same, but for the PC of the new program
abbrev pub wrong_lines : List KeepLine
wrong_lines = Fixed 19 1 6 ∷ Equal 0 ∷ []

-- the boundary at 0 and 4, with an empty stack
abbrev pub block_with : (bound : ℕ) → List KeepLine → Block
block_with bound lines = record { before = 0; after = 4; bound = bound; sp = 0; lines = lines }

-- where the registers are compared
abbrev pub register_block : (bound : ℕ) → Block
register_block bound = block_with bound register_lines

-- the old program and a new one on a board, with these boundaries
abbrev pub revision_with : BoardParts → (after : List ℕ) → List Block → Revision
revision_with board after blocks =
    record { board = board; before = two_words; after = after; keep = record { blocks = blocks } }

-- a revision of the small board, with one boundary and two cycles at most
abbrev pub small_revision : (after : List ℕ) → Revision
small_revision after = revision_with small_board after (register_block 2 ∷ [])

-- a revision with another boundary, which the old program meets between its words
abbrev pub parted_revision : BoardParts → (after : List ℕ) → Revision
parted_revision board after = revision_with board after
    (register_block 2 ∷ record { before = 1; after = 5; bound = 2; sp = 0; lines = [] } ∷ [])

-- the small board that puts out Y in each cycle
unfoldable pub speaking_board : BoardParts
speaking_board = record small_board { control = record small_points { out = FixedPoint 1 } }

-- a state at an address, with this PC and these registers; all else is 0
abbrev pub state_at : (at pc : ℕ) → (registers : List ℕ) → BoardState
state_at at pc registers =
    let first = (pair_with registers).board in
    record first { at = at; seq = record first.seq { pc = pc } }

-- an environment that has nothing but 0
abbrev pub nothing : Environment
nothing = record { line = []; noise = []; wait = []; inputs = [] }

-- one with these lines alone
abbrev pub with_lines : List Bool → Environment
with_lines lines = record nothing { line = lines }

-- one with these inputs alone
abbrev pub with_inputs : List ℕ → Environment
with_inputs inputs = record nothing { inputs = inputs }

-- one with waits, of whose lines that of clock 2 alone is 1
abbrev pub waiting_for_line : Environment
waiting_for_line = record waiting { line = false ∷ false ∷ true ∷ [] }

-- twins at a boundary, with these registers in both and these environments
abbrev pub twins_with : Block → (registers : List ℕ) → (old_env new_env : Environment) → TwinStart
twins_with block registers old_env new_env = record {
  block = block;
  before = record { state = state_at 0 1 registers; env = old_env };
  after = record { state = state_at 4 5 registers; env = new_env };
}

-- those of the small revisions, where the environments have nothing but 0
abbrev pub small_twins : (registers : List ℕ) → TwinStart
small_twins registers = twins_with (register_block 2) registers nothing nothing

-- with 8 in both registers, and these environments
abbrev pub eights_with : (old_env new_env : Environment) → TwinStart
eights_with old_env new_env = twins_with (register_block 2) (8 ∷ 8 ∷ []) old_env new_env

-- what the small twins show with a new program
abbrev pub shown : (after registers : List ℕ) → Option TwinDifference
shown after registers = twin_difference (small_revision after) (small_twins registers)

-- what a program has come to: its control address and the first two registers
pub record Reached : Type 0 where
  pub at : ℕ
  pub first : ℕ
  pub second : ℕ

-- where one of the small programs has come to after n cycles
abbrev pub reached : Side → (after registers : List ℕ) → (n : ℕ) → Reached
reached side after registers n =
    let run = run_on side (small_revision after) (small_twins registers) n in
    record {
      at = run.state.at;
      first = slice_index run.state.regs 0;
      second = slice_index run.state.regs 1;
    }

-- these numbers
abbrev pub reached_as : (at first second : ℕ) → Reached
reached_as at first second = record { at = at; first = first; second = second }

-- an old program that jumps to its boundary at 0 and does nothing else, and a new one that so jumps to 4
abbrev pub staying : Revision
staying = record {
  board = small_board;
  before = 0x4000C0040 ∷ [];
  after = at_four 0x4010C0040;
  keep = record { blocks = register_block 1 ∷ [] };
}

-- what twin starts of the small revisions decide
abbrev pub decided_with : (after registers : List ℕ) → List Decided
decided_with after registers = twin_case (small_revision after) (small_twins registers)

-- the bits of address 4
abbrev pub to_four : List Decided
to_four = goes_to (0 ∷ 0 ∷ 0 ∷ 0 ∷ 0 ∷ 0 ∷ 0 ∷ 0 ∷ 0 ∷ 1 ∷ 0 ∷ 0 ∷ [])

-- and those of address 5
abbrev pub to_five : List Decided
to_five = goes_to (0 ∷ 0 ∷ 0 ∷ 0 ∷ 0 ∷ 0 ∷ 0 ∷ 0 ∷ 0 ∷ 1 ∷ 0 ∷ 1 ∷ [])
