-- Starts of a job whose runs never wait.
use Rattle.std.specs.Prelude.{◌≡◌, ℕ, Some, slice_get}
use Rattle.mw_cycle.specs.SteadyEnvironment.{Environment, IsEnvironment}
use Rattle.mw_rel.specs.Relation.{Boundary}
use Rattle.mw_rel.specs.InRelation.{Pair, InRelation}
use Rattle.mw_rel.specs.Job.{Job}

-- a boundary, a pair of states and an environment
pub record Start : Type 0 where
  pub boundary : Boundary
  pub pair : Pair
  pub env : Environment

-- a boundary of the job, a pair in relation there, and an environment of the board
pub record IsStart (job : Job) (start : Start) : Type 0 where
  pub boundary : (n : ℕ) × (slice_get job.relation.boundaries n ≡ Some start.boundary)
  pub related : InRelation job start.boundary start.pair
  pub env : IsEnvironment job.board start.env
