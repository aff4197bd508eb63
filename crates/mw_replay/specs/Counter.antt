-- A start of a job as a file gives it, and the one start that it gives.
use Rattle.std.specs.Prelude.{◌≡◌, ℕ, ◌<◌, length}
use Rattle.mw_cycle.specs.Environment.{IsEnvironment}
use Rattle.mw_rel.specs.Begin.{Begin, IsBegin, IsCompleted}
use Rattle.mw_rel.specs.Free.{numbered}
use Rattle.mw_rel.specs.Job.{Job}
use Rattle.mw_rel.specs.Start.{Start}

-- the number of a boundary, from 0, and what a start is chosen by there
pub record Counter : Type 0 where
  pub boundary : ℕ
  pub begin : Begin

-- the counter of a choice at a boundary
abbrev pub counter_at : (boundary : ℕ) → Begin → Counter
counter_at boundary begin = record { boundary = boundary; begin = begin }

-- the boundary is one of the job's, what is chosen is in range there, and the environment is one of the board
pub record IsCounter (job : Job) (counter : Counter) : Type 0 where
  pub there : counter.boundary < length job.relation.boundaries
  pub begin : IsBegin job (numbered job counter.boundary) counter.begin
  pub env : IsEnvironment job.board counter.begin.env

-- the start that a counter gives: its boundary, the pair in relation there with its values and its memory, and its
-- environment
pub record IsStartOf (job : Job) (counter : Counter) (start : Start) : Type 0 where
  pub boundary : start.boundary ≡ numbered job counter.boundary
  pub pair : IsCompleted job (numbered job counter.boundary) counter.begin start.pair
  pub env : start.env ≡ counter.begin.env
