-- A worked run with waits, as values on which the definitions compute.
use Rattle.std.specs.Prelude.{ℕ, List, [], ◌∷◌, Bool, true, false, Some, None, slice_index}
use Rattle.mw_board.specs.Examples.{small_board, small_points}
use Rattle.mw_board.specs.declared.bit.DFrom.TheVariants as sources
use Rattle.mw_board.specs.declared.control.Control.TheVariants.{Field, Fixed}
use Rattle.mw_board.specs.declared.parts.BoardParts.{BoardParts}
use Rattle.mw_cycle.specs.SteadyEnvironment.{Environment as SteadyEnvironment}
use Rattle.mw_cycle.specs.State.{BoardState}
use Rattle.mw_rel.specs.Examples.{sums, pair_with}
use Rattle.mw_cycle.specs.Environment.{Environment}
use Rattle.mw_cycle.specs.Run.{run_of, line_of_cycle}
use Rattle.mw_cycle.specs.Thinned.{thinned}

-- the small board whose D is the memory, so that each word uses it
unfoldable pub memory_board : BoardParts
memory_board = record small_board { d = record { from = sources.Memory; mask = None } ∷ [] }

-- the small board whose D is the memory behind a mask
unfoldable pub masked_board : BoardParts
masked_board = record small_board { d = record { from = sources.Memory; mask = Some 1 } ∷ [] }

-- the small board whose D is the memory at the first word of `sums`, and 0 at the second
unfoldable pub mixed_board : BoardParts
mixed_board = record small_board {
  control = record small_points { d = Field 6 };
  d = record { from = sources.Memory; mask = None } ∷ record { from = sources.Zero; mask = None } ∷ [];
}

-- the small board whose D is the input, so that each word takes one
unfoldable pub taking_board : BoardParts
taking_board = record small_board { d = record { from = sources.Input; mask = None } ∷ [] }

-- the small board that writes to the memory in each cycle
unfoldable pub writing_board : BoardParts
writing_board = record small_board { control = record small_points { memory_write = Fixed 1 } }

-- at the first word, with 9 and 8 in the first two registers
abbrev pub before_sums : BoardState
before_sums = (pair_with (9 ∷ 8 ∷ [])).board

-- clocks 0, 1 and 3 have the wait bit 1; the noise of each clock is another
abbrev pub waiting : Environment
waiting = record {
  line = true ∷ false ∷ true ∷ false ∷ false ∷ true ∷ [];
  noise = 1 ∷ 2 ∷ 3 ∷ 4 ∷ 5 ∷ 6 ∷ [];
  wait = true ∷ true ∷ false ∷ true ∷ [];
  inputs = [];
}

-- what a run has come to: its cycles and clocks, the control address, the first register and PC
pub record Reached : Type 0 where
  pub cycles : ℕ
  pub clocks : ℕ
  pub at : ℕ
  pub register : ℕ
  pub pc : ℕ

-- what the run on a board has come to after n cycles
abbrev pub reached : BoardParts → (n : ℕ) → Reached
reached board n =
    let run = run_of board sums waiting before_sums n in
    record {
      cycles = run.clock.cycle;
      clocks = run.clock.clocks;
      at = run.state.at;
      register = slice_index run.state.regs 0;
      pc = run.state.seq.pc;
    }

-- these numbers
abbrev pub reached_as : (cycles clocks at register pc : ℕ) → Reached
reached_as cycles clocks at register pc =
    record { cycles = cycles; clocks = clocks; at = at; register = register; pc = pc }

-- the lines of the first two cycles on a board
abbrev pub first_lines : BoardParts → List Bool
first_lines board =
    line_of_cycle board sums waiting before_sums 0 ∷ line_of_cycle board sums waiting before_sums 1 ∷ []

-- the environment without the waits on a board
abbrev pub left_of_waiting : BoardParts → SteadyEnvironment
left_of_waiting board = thinned board sums waiting before_sums

-- these lists
abbrev pub lists_as : List Bool → (noise : List ℕ) → SteadyEnvironment
lists_as line noise = record { line = line; noise = noise; inputs = [] }
