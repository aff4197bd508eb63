-- What is left of a run's environment without its waits.
use Rattle.std.specs.Prelude.{ℕ, ◌+◌, List, [], ◌∷◌, Bool, if◌then◌else◌}
use Rattle.mw_board.specs.declared.parts.BoardParts.{BoardParts}
use Rattle.mw_cycle.specs.declared.environment.Clock.{Clock}
use Rattle.mw_cycle.specs.SteadyEnvironment.{Environment as SteadyEnvironment, Clock as SteadyClock}
use Rattle.mw_cycle.specs.SteadyRun.{BoardRun as SteadyRun}
use Rattle.mw_cycle.specs.State.{BoardState}
use Rattle.mw_cycle.specs.Environment.{Environment}
use Rattle.mw_cycle.specs.Run.{BoardRun, is_wait, run_of_clocks}

-- an environment without waits, as one that might have some
abbrev pub never_waiting : SteadyEnvironment → Environment
never_waiting env = record { line = env.line; noise = env.noise; wait = []; inputs = env.inputs }

-- a list without the entries whose numbers, counted from n, pass a test
abbrev pub without_from : {A : Type 0} → (ℕ → Bool) → ℕ → List A → List A
without_from test n [] = []
without_from test n (x ∷ xs) =
    if test n then without_from test (n + 1) xs else x ∷ without_from test (n + 1) xs

-- clock n of a run was a wait
abbrev pub was_wait : BoardParts → List ℕ → Environment → BoardState → ℕ → Bool
was_wait board store env start n = is_wait board store env (run_of_clocks board store env start n)

-- the environment without waits: its lists by clock lack the entries of the clocks that were waits
abbrev pub thinned : BoardParts → List ℕ → Environment → BoardState → SteadyEnvironment
thinned board store env start = record {
  line = without_from (was_wait board store env start) 0 env.line;
  noise = without_from (was_wait board store env start) 0 env.noise;
  inputs = env.inputs;
}

-- a run's place without its count of clocks
abbrev pub place_of : Clock → SteadyClock
place_of clock = record { cycle = clock.cycle; taken = clock.taken }

-- a run without its count of clocks
abbrev pub but_clocks : BoardRun → SteadyRun
but_clocks run = record { state = run.state; events = run.events; clock = place_of run.clock }
