-- Runs of a board by clocks, and by the cycles that these make.
use Rattle.std.specs.Prelude.{ℕ, zero, suc, ◌+◌, ◌-◌, List, [], ◌++◌, length, Bool, false, ◌==◌}
use Rattle.std.specs.Prelude.{if◌then◌else◌, Option, Some, slice_index_or}
use Rattle.std.specs.Option.{option_to_list}
use Rattle.mw_base.specs.declared.event.Event.{Event}
use Rattle.mw_base.specs.declared.event.Event.TheVariants.{Taken}
use Rattle.mw_board.specs.declared.parts.BoardParts.{BoardParts}
use Rattle.mw_cycle.specs.declared.environment.Clock.{Clock}
use Rattle.mw_cycle.specs.declared.state.CycleIn.{CycleIn}
use Rattle.mw_cycle.specs.State.{BoardState}
use Rattle.mw_cycle.specs.Cycle.{nets_of, state_after, waits_in}
use Rattle.mw_cycle.specs.Environment.{Environment, at_start, given_at, wait_bit}

-- the state that a run has reached, its events in the order of their clocks, and its place in the environment
pub record BoardRun : Type 0 where
  pub state : BoardState
  pub events : List Event
  pub clock : Clock

-- ---- one clock

-- the next clock of a run is a wait
abbrev pub is_wait : BoardParts → List ℕ → Environment → BoardRun → Bool
is_wait board store env run = waits_in board store run.state (wait_bit env run.clock)

-- the place after a wait: one clock, and nothing else
abbrev pub waited : Clock → Clock
waited clock = record { cycle = clock.cycle; taken = clock.taken; clocks = clock.clocks + 1 }

-- the run with a wait more
abbrev pub with_wait : BoardRun → BoardRun
with_wait run = record { state = run.state; events = run.events; clock = waited run.clock }

-- a cycle more, which one clock makes, and an input more where one was taken
abbrev pub clock_after : Option Event → Clock → Clock
clock_after (Some (Taken v)) clock =
    record { cycle = clock.cycle + 1; taken = clock.taken + 1; clocks = clock.clocks + 1 }
clock_after other clock = record { cycle = clock.cycle + 1; taken = clock.taken; clocks = clock.clocks + 1 }

-- the run with a cycle more, which has the line and the noise of its clock
abbrev pub with_cycle : BoardParts → List ℕ → Environment → BoardRun → BoardRun
with_cycle board store env run =
    let given = given_at env run.clock in
    let event = (nets_of board store run.state given).event in
    record {
      state = state_after board store run.state given;
      events = run.events ++ option_to_list event;
      clock = clock_after event run.clock;
    }

-- the run with one clock more: a wait, or a cycle
unfoldable pub with_clock : BoardParts → List ℕ → Environment → BoardRun → BoardRun
with_clock board store env run =
    if is_wait board store env run then with_wait run else with_cycle board store env run

-- ---- clocks and cycles

-- the run of so many clocks from a state
unfoldable pub run_of_clocks : BoardParts → List ℕ → Environment → BoardState → ℕ → BoardRun
run_of_clocks board store env start zero = record { state = start; events = []; clock = at_start }
run_of_clocks board store env start (suc n) = with_clock board store env (run_of_clocks board store env start n)

-- how many cycles so many clocks make
abbrev pub cycles_in : BoardParts → List ℕ → Environment → BoardState → ℕ → ℕ
cycles_in board store env start clocks = (run_of_clocks board store env start clocks).clock.cycle

-- the least number, of so many from a given one on, that passes a test; or the one behind them where none does
abbrev pub least_from : (ℕ → Bool) → ℕ → ℕ → ℕ
least_from test from zero = from
least_from test from (suc count) = if test from then from else least_from test (from + 1) count

-- the least number of clocks that makes n cycles; it comes, since no clock past the end of the wait list is a wait
abbrev pub clocks_for : BoardParts → List ℕ → Environment → BoardState → ℕ → ℕ
clocks_for board store env start n =
    least_from (λ clocks. cycles_in board store env start clocks == n) 0 (length env.wait + n)

-- the run of n cycles: that of the least number of clocks that makes them
abbrev pub run_of : BoardParts → List ℕ → Environment → BoardState → ℕ → BoardRun
run_of board store env start n = run_of_clocks board store env start (clocks_for board store env start n)

-- the number of the clock that makes cycle n: of the clocks of n + 1 cycles it is the last
abbrev pub clock_making : BoardParts → List ℕ → Environment → BoardState → ℕ → ℕ
clock_making board store env start n = clocks_for board store env start (n + 1) - 1

-- the line in cycle n: that of the clock that makes it
abbrev pub line_of_cycle : BoardParts → List ℕ → Environment → BoardState → ℕ → Bool
line_of_cycle board store env start n = slice_index_or env.line (clock_making board store env start n) false

-- what the environment has for cycle n: what it has for the clock that makes it
abbrev pub given_to_cycle : BoardParts → List ℕ → Environment → BoardState → ℕ → CycleIn
given_to_cycle board store env start n =
    given_at env (run_of_clocks board store env start (clock_making board store env start n)).clock

-- ---- a run behind another

-- the place of a run that goes on from one place by another
abbrev pub further : Clock → Clock → Clock
further place by = record {
  cycle = place.cycle + by.cycle;
  taken = place.taken + by.taken;
  clocks = place.clocks + by.clocks;
}

-- a run, and then another that begins where it ended
abbrev pub then_run : BoardRun → BoardRun → BoardRun
then_run first second = record {
  state = second.state;
  events = first.events ++ second.events;
  clock = further first.clock second.clock;
}
