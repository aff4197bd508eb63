-- The decided bits of the cycles of a run that never waits.
use Rattle.std.specs.Prelude.{◌≡◌, ℕ, zero, suc, ◌+◌, List, [], ◌++◌}
use Rattle.mw_board.specs.declared.parts.BoardParts.{BoardParts}
use Rattle.mw_term.specs.declared.decided.Decided.{Decided}
use Rattle.mw_cycle.specs.Decided.{decided_of}
use Rattle.mw_cycle.specs.State.{BoardState}
use Rattle.mw_cycle.specs.SteadyEnvironment.{Environment, given_at, rest_at}
use Rattle.mw_cycle.specs.SteadyRun.{run_of}

-- the decided bits of the cycle with this number, from 0, of a run from a state
abbrev pub bits_of_cycle : BoardParts → List ℕ → Environment → BoardState → ℕ → List Decided
bits_of_cycle board store env start n =
    let run = run_of board store env start n in
    decided_of board store run.state (given_at env run.clock)

-- the decided bits of the first n cycles of a run from a state, cycle after cycle
unfoldable pub bits_of_cycles : BoardParts → List ℕ → Environment → BoardState → ℕ → List Decided
bits_of_cycles board store env start zero = []
bits_of_cycles board store env start (suc n) =
    bits_of_cycles board store env start n ++ bits_of_cycle board store env start n

-- The decided bits of n + m cycles are those of n, and then those of m from the state that these reached, over what is
-- left of the environment at the place that they reached.
abbrev pub BitsGoOn : Type 0
BitsGoOn = (board : BoardParts) (store : List ℕ) (env : Environment) (start : BoardState) (n m : ℕ)
    → let first = run_of board store env start n in
    bits_of_cycles board store env start (n + m)
    ≡ bits_of_cycles board store env start n ++ bits_of_cycles board store (rest_at env first.clock) first.state m
