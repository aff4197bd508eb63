-- What it is that a job is certified.
use Rattle.std.specs.Prelude.{◌≡◌, ℕ, ◌+◌, ◌<◌, ◌≤◌, ◌==◌, Bool, find, Option, Some}
use Rattle.mw_cycle.specs.Boundary.{IsBoundary}
use Rattle.mw_macro.specs.DescribedStep.{Stepped}
use Rattle.mw_rel.specs.InRelation.{InRelation, pair_of}
use Rattle.mw_rel.specs.Job.{Job}
use Rattle.mw_rel.specs.Relation.{Boundary}
use Rattle.mw_rel.specs.DescribedRun.{IsDescribedRun}
use Rattle.mw_cycle.specs.Run.{BoardRun, line_of_cycle, run_of}
use Rattle.mw_rel.specs.Start.{Start, IsStart, addresses_of}

-- the board's run of n cycles from a start
abbrev pub board_run : Job → Start → ℕ → BoardRun
board_run job start n = run_of job.board job.store start.env start.pair.board n

-- the control address after n cycles of it
abbrev pub at_cycle : Job → Start → ℕ → ℕ
at_cycle job start n = (board_run job start n).state.at

-- the line of the clock that makes cycle n of it
abbrev pub line_at : Job → Start → ℕ → Bool
line_at job start n = line_of_cycle job.board job.store start.env start.pair.board n

-- boundary k of a start's run is at cycle c
abbrev pub IsBoundaryOf : Job → Start → ℕ → ℕ → Type 0
IsBoundaryOf job start k c = IsBoundary (addresses_of job) (at_cycle job start) k c

-- the boundary at a control address
abbrev pub boundary_at : Job → ℕ → Option Boundary
boundary_at job at = find (λ boundary. boundary.address == at) job.relation.boundaries

-- Boundary k of a start's run comes; each segment up to it takes, without waits, at most the bound of the boundary at
-- which it begins; there the board, and the described machine after k steps, are in relation; and the events of the
-- board's cycles before it are those of the k steps.
pub record IsKept (job : Job) (start : Start) (k : ℕ) : Type 0 where
  pub cycle : ℕ
  pub steps : Stepped
  pub reached : Boundary
  pub comes : IsBoundaryOf job start k cycle
  pub bounds : (j c d : ℕ) (from : Boundary) → j < k → IsBoundaryOf job start j c
      → IsBoundaryOf job start (j + 1) d → boundary_at job (at_cycle job start c) ≡ Some from → d ≤ c + from.bound
  pub described : IsDescribedRun job.machine (addresses_of job) (at_cycle job start) (line_at job start)
      start.env.inputs start.pair.machine k steps
  pub there : boundary_at job (at_cycle job start cycle) ≡ Some reached
  pub related : InRelation job reached (pair_of (board_run job start cycle).state steps.state)
  pub events : (board_run job start cycle).events ≡ steps.events

-- from each boundary, each pair in relation there and each environment, each boundary of the run is kept
abbrev pub Certified : Job → Type 0
Certified job = (start : Start) → IsStart job start → (k : ℕ) → IsKept job start k
