-- A run that a call has made longer: what it leaves is what it was given, and then a run from there.
use Rattle.std.specs.Prelude.{◌⊎◌, ℕ, ◌+◌, ◌≤◌, ◌^◌, List, Option, option_map}
use Rattle.mw_base.specs.declared.event.Event.{Event}
use Rattle.mw_board.specs.declared.parts.BoardParts.{BoardParts}
use Rattle.mw_cycle.specs.declared.environment.Clock.{Clock}
use Rattle.mw_cycle.specs.State.{BoardState}
use Rattle.mw_cycle.specs.Environment.{Environment, rest_at}
use Rattle.mw_cycle.specs.Run.{BoardRun, run_of, then_run}
use Rattle.mw_cycle.specs.Boundary.{first_segment}

-- a run that has reached this state, with these events, at this place of the environment
abbrev pub run_at : BoardState → List Event → Clock → BoardRun
run_at state events clock = record { state = state; events = events; clock = clock }

-- a run, and then n cycles over what is left of the environment
abbrev pub cycles_after : BoardParts → List ℕ → Environment → BoardRun → ℕ → BoardRun
cycles_after board store env run n = then_run run (run_of board store (rest_at env run.clock) run.state n)

-- a run, and then its next segment, where that keeps its limit; nothing where it is late
abbrev pub segment_after : BoardParts → List ℕ → Environment → BoardRun → List ℕ → ℕ → Option BoardRun
segment_after board store env run addresses limit =
    option_map (then_run run) (first_segment board store (rest_at env run.clock) run.state addresses limit)

-- So many cycles from a place end at few clocks: at most as many more, or as many more than 2^63, from which on no clock
-- waits, since no wait list is so long.
abbrev pub AreFew : (clocks cycles reached : ℕ) → Type 0
AreFew clocks cycles reached = (reached ≤ clocks + cycles) ⊎ (reached ≤ 2 ^ 63 + cycles)
