-- Runs of a board that never wait: each clock makes a cycle.
use Rattle.std.specs.Prelude.{ℕ, zero, suc, ◌+◌, List, [], ◌++◌, Option, Some, None}
use Rattle.std.specs.Option.{option_to_list}
use Rattle.mw_base.specs.declared.event.Event.{Event}
use Rattle.mw_base.specs.declared.event.Event.TheVariants.{Out, Taken}
use Rattle.mw_board.specs.declared.parts.BoardParts.{BoardParts}
use Rattle.mw_cycle.specs.State.{BoardState}
use Rattle.mw_cycle.specs.SteadyEnvironment.{Environment, Clock, at_start, given_at}
use Rattle.mw_cycle.specs.Cycle.{state_after, nets_of}

-- the state that a run has reached, its events in the order of their cycles, and its place in the environment
pub record BoardRun : Type 0 where
  pub state : BoardState
  pub events : List Event
  pub clock : Clock

-- a cycle more, and an input more where one was taken
abbrev pub clock_after : Option Event → Clock → Clock
clock_after (Some (Taken v)) clock = record { cycle = clock.cycle + 1; taken = clock.taken + 1 }
clock_after (Some (Out y)) clock = record { cycle = clock.cycle + 1; taken = clock.taken }
clock_after None clock = record { cycle = clock.cycle + 1; taken = clock.taken }

-- the run with one cycle more
unfoldable pub longer_run : BoardParts → List ℕ → Environment → BoardRun → BoardRun
longer_run board store env run =
    let given = given_at env run.clock in
    let event = (nets_of board store run.state given).event in
    record {
      state = state_after board store run.state given;
      events = run.events ++ option_to_list event;
      clock = clock_after event run.clock;
    }

-- the run of n cycles from a state
unfoldable pub run_of : BoardParts → List ℕ → Environment → BoardState → ℕ → BoardRun
run_of board store env start zero = record { state = start; events = []; clock = at_start }
run_of board store env start (suc n) = longer_run board store env (run_of board store env start n)

-- ---- the law of suffixes

-- the place of a run that goes on from one place by another
abbrev pub further : Clock → Clock → Clock
further place by = record { cycle = place.cycle + by.cycle; taken = place.taken + by.taken }

-- a run, and then another that begins where it ended
abbrev pub then_run : BoardRun → BoardRun → BoardRun
then_run first second = record {
  state = second.state;
  events = first.events ++ second.events;
  clock = further first.clock second.clock;
}
