-- How far a replay has come in its environment.
use Rattle.std.specs.Prelude.{ℕ, ◌+◌, ◌*◌, ◌≤◌, ◌^◌}
use Rattle.mw_replay.specs.Replay.{Replay}

-- so many steps were made, each of 500 cycles at most; no clock from 2^63 on waits
pub record HasMade (steps : ℕ) (replay : Replay) : Type 0 where
  pub cycles : replay.clock.cycle ≤ steps * 500
  pub taken : replay.clock.taken ≤ steps * 500
  pub clocks : replay.clock.clocks ≤ 2 ^ 63 + steps * 500
