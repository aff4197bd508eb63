-- What the code keeps of a replay, seen as where it stands.
use Rattle.std.specs.Prelude.{◌≡◌, ◌≤◌, [], vec_capacity}
use Rattle.mw_replay.specs.declared.stepping.Stand.{Stand}
use Rattle.mw_replay.specs.Replay.{Replay}

-- where a replay stands
abbrev pub replay_of : Stand → Replay
replay_of stand = record { boundary = stand.boundary; pair = stand.pair; env = stand.env; clock = stand.clock }

-- there is room for the events of a segment, and for those of a step
pub record HasRoom (stand : Stand) : Type 0 where
  pub segment : 500 ≤ vec_capacity stand.events
  pub step : 4096 ≤ vec_capacity stand.steps
  pub unused : stand.temps.items ≡ []
