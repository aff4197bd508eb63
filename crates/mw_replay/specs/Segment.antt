-- One segment of a replay beside one described step, and where both come to.
use Rattle.std.specs.Prelude.{◌≡◌, ℕ, ◌+◌, ◌<◌, ◌≤◌, List, length, Some}
use Rattle.mw_base.specs.declared.event.Event.{Event}
use Rattle.mw_cycle.specs.declared.environment.Clock.{Clock}
use Rattle.mw_cycle.specs.Run.{BoardRun, further}
use Rattle.mw_cycle.specs.State.{BoardState}
use Rattle.mw_rel.specs.Differs.{first_step, segment_of}
use Rattle.mw_rel.specs.Job.{Job}
use Rattle.mw_rel.specs.Start.{Start}
use Rattle.mw_sim.specs.Run.{AreFew}
use Rattle.mw_replay.specs.declared.stepping.Stand.{Stand}
use Rattle.mw_replay.specs.CounterText.{number_at}
use Rattle.mw_replay.specs.Replay.{Replay, next_start}

-- where the segment of a start ends, from a place in a longer environment
pub record Ended (job : Job) (start : Start) (place : Clock) (s : BoardState) (es : List Event) (end : Clock)
    : Type 0 where
  pub run : BoardRun
  pub segment : segment_of job start ≡ Some run
  pub state : s ≡ run.state
  pub events : es ≡ run.events
  pub clock : end ≡ further place run.clock

-- the segment of a replay has ended at the boundary of a number, and its described step is made
pub record Comes (job : Job) (replay : Replay) (stand : Stand) (n : ℕ) (end : Clock) : Type 0 where
  pub ended : Ended job (next_start job replay) replay.clock stand.pair.board stand.events.items end
  pub at : number_at job stand.pair.board.at ≡ Some n
  pub there : n < length job.relation.boundaries
  pub machine : stand.pair.machine ≡ (first_step job (next_start job replay)).state
  pub steps : stand.steps.items ≡ (first_step job (next_start job replay)).events

-- the segment of a replay, from this place on, has at most 500 cycles, and as many events and inputs taken, beside
-- which its clocks are few
pub record IsShort (place : Clock) (es : List Event) (end : Clock) : Type 0 where
  pub few : length es ≤ 500
  pub cycle : end.cycle ≤ place.cycle + 500
  pub taken : end.taken ≤ place.taken + 500
  pub clocks : AreFew place.clocks 500 end.clocks
