-- What commands make of their files.
use Rattle.std.specs.Prelude.{ℕ, List}
use Rattle.mw_rel.specs.Job.{Job}
use Rattle.mw_replay.specs.Counter.{Counter}
use Rattle.mw_sim.specs.Start.{Start}
use Rattle.mw_asm.specs.declared.program.Program.{Program}

-- a job, and the start of it that is compared
pub record Comparison : Type 0 where
  pub job : Job
  pub counter : Counter

-- a board with its microprogram, and the start of its run
pub record Prepared : Type 0 where
  pub program : Program
  pub start : Start

-- a job that PDP-8 programs fit, the memory of one, and the keys at its console
pub record Console : Type 0 where
  pub job : Job
  pub memory : List ℕ
  pub keys : List ℕ
