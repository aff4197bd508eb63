-- Starts without their waits.
use Rattle.mw_cycle.specs.Thinned.{never_waiting, thinned}
use Rattle.mw_rel.specs.Job.{Job}
use Rattle.mw_rel.specs.Start.{Start}
use Rattle.mw_rel.specs.SteadyStart.{Start as SteadyStart}

-- the start without waits: the same boundary and pair, and the thinned environment
abbrev pub thinned_start : Job → Start → SteadyStart
thinned_start job start = record {
  boundary = start.boundary;
  pair = start.pair;
  env = thinned job.board job.store start.env start.pair.board;
}

-- a start that has no waits, as one that might
abbrev pub always_ready : SteadyStart → Start
always_ready start = record {
  boundary = start.boundary;
  pair = start.pair;
  env = never_waiting start.env;
}
