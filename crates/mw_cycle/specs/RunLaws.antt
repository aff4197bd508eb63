-- Laws of runs with waits.
use Rattle.std.specs.Prelude.{◌≡◌, ℕ, ◌+◌, ◌<◌, ◌≤◌, List, length}
use Rattle.mw_board.specs.declared.parts.BoardParts.{BoardParts}
use Rattle.mw_cycle.specs.SteadyEnvironment.{Environment as SteadyEnvironment, rest_at as steady_rest_at}
use Rattle.mw_cycle.specs.SteadyRun.{run_of as steady_run_of}
use Rattle.mw_cycle.specs.State.{BoardState}
use Rattle.mw_cycle.specs.Environment.{Environment, rest_at}
use Rattle.mw_cycle.specs.Run.{cycles_in, clocks_for, run_of_clocks, run_of, then_run}
use Rattle.mw_cycle.specs.Thinned.{thinned, but_clocks, place_of, never_waiting}

-- so many clocks make n cycles, and fewer make fewer
pub record IsLeastFor (board : BoardParts) (store : List ℕ) (env : Environment) (start : BoardState)
    (n clocks : ℕ) : Type 0 where
  pub made : cycles_in board store env start clocks ≡ n
  pub least : (fewer : ℕ) → fewer < clocks → cycles_in board store env start fewer < n

-- each wait ends: each number of cycles is made, and those are the least clocks that make it
abbrev pub CyclesCome : Type 0
CyclesCome = (board : BoardParts) (store : List ℕ) (env : Environment) (start : BoardState) (n : ℕ)
    → IsLeastFor board store env start n (clocks_for board store env start n)

-- the clocks of a run of n cycles are no more than n beside the wait list
abbrev pub ClocksAreBounded : Type 0
ClocksAreBounded = (board : BoardParts) (store : List ℕ) (env : Environment) (start : BoardState) (n : ℕ)
    → clocks_for board store env start n ≤ length env.wait + n

-- clocks are the least that make n cycles only where they are those of the run
abbrev pub ClocksAreOne : Type 0
ClocksAreOne = (board : BoardParts) (store : List ℕ) (env : Environment) (start : BoardState) (n clocks : ℕ)
    → IsLeastFor board store env start n clocks → clocks ≡ clocks_for board store env start n

-- A run of n cycles is, but for its count of clocks, the run of n cycles without waits, over the lists from which the
-- clocks that were waits are taken out.
abbrev pub RunsAreThinned : Type 0
RunsAreThinned = (board : BoardParts) (store : List ℕ) (env : Environment) (start : BoardState) (n : ℕ)
    → but_clocks (run_of board store env start n) ≡ steady_run_of board store (thinned board store env start) start n

-- A run of n + m cycles is a run of n, and then of m from the state that it reached, over what is left of the
-- environment at the place that it reached.
abbrev pub RunsGoOn : Type 0
RunsGoOn = (board : BoardParts) (store : List ℕ) (env : Environment) (start : BoardState) (n m : ℕ)
    → let first = run_of board store env start n in
    run_of board store env start (n + m)
    ≡ then_run first (run_of board store (rest_at env first.clock) first.state m)

-- A run may also be parted behind any of its clocks, a wait too, where one more cycle at least follows.
abbrev pub ClocksGoOn : Type 0
ClocksGoOn = (board : BoardParts) (store : List ℕ) (env : Environment) (start : BoardState) (clocks m : ℕ)
    → let first = run_of_clocks board store env start clocks in
    0 < m → run_of board store env start (first.clock.cycle + m)
    ≡ then_run first (run_of board store (rest_at env first.clock) first.state m)

-- what is left of an environment after n cycles is, without its waits, what is left of it without its waits
abbrev pub RestsAreThinned : Type 0
RestsAreThinned = (board : BoardParts) (store : List ℕ) (env : Environment) (start : BoardState) (n : ℕ)
    → let run = run_of board store env start n in
    thinned board store (rest_at env run.clock) run.state
    ≡ steady_rest_at (thinned board store env start) (place_of run.clock)

-- nothing is taken out of an environment without waits
abbrev pub NothingIsThinned : Type 0
NothingIsThinned = (board : BoardParts) (store : List ℕ) (env : SteadyEnvironment) (start : BoardState)
    → thinned board store (never_waiting env) start ≡ env

-- and a run over it has as many clocks as cycles
abbrev pub ClocksAreCycles : Type 0
ClocksAreCycles = (board : BoardParts) (store : List ℕ) (env : SteadyEnvironment) (start : BoardState) (n : ℕ)
    → clocks_for board store (never_waiting env) start n ≡ n
