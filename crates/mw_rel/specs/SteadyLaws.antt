-- Laws of starts whose runs never wait, and of what is certified over these.
use Rattle.std.specs.Prelude.{◌≡◌, ◌↔◌, ℕ, ◌+◌, ◌≤◌, Some, None}
use Rattle.mw_cycle.specs.SteadyRun.{BoardRun}
use Rattle.mw_rel.specs.Relation.{Boundary}
use Rattle.mw_rel.specs.declared.difference.Difference.{Difference}
use Rattle.mw_rel.specs.Certified.{boundary_at}
use Rattle.mw_rel.specs.SteadyCertified.{Certified, IsBoundaryOf, at_cycle}
use Rattle.mw_rel.specs.SteadyDiffers.{difference_of, segment_of, first_step, Differs, start_after}
use Rattle.mw_rel.specs.InRelation.{InRelation, pair_of}
use Rattle.mw_rel.specs.Job.{Job, IsJob}
use Rattle.mw_rel.specs.SteadyStart.{Start, IsStart}

-- A start's segment keeps its bound; the pair reached, which is the board there and the machine after one step, is in
-- relation at the boundary reached; and both have the same events.
pub record IsSame (job : Job) (start : Start) : Type 0 where
  pub run : BoardRun
  pub reached : Boundary
  pub segment : segment_of job start ≡ Some run
  pub there : boundary_at job run.state.at ≡ Some reached
  pub related : InRelation job reached (pair_of run.state (first_step job start).state)
  pub events : run.events ≡ (first_step job start).events

-- no start differs
abbrev pub NoneDiffers : Job → Type 0
NoneDiffers job = (start : Start) (difference : Difference) → ¬ Differs job start difference

-- a start shows no difference exactly where it is the same on both sides
abbrev pub SameShowsNothing : Type 0
SameShowsNothing = (job : Job) (start : Start) → IsJob job → IsStart job start
    → (difference_of job start ≡ None) ↔ IsSame job start

-- where a start shows no difference, the start of the next segment is one of the job
abbrev pub StartsFollow : Type 0
StartsFollow = (job : Job) (start : Start) (run : BoardRun) (reached : Boundary) → IsJob job → IsStart job start
    → difference_of job start ≡ None → segment_of job start ≡ Some run → boundary_at job run.state.at ≡ Some reached
    → IsStart job (start_after job start run reached)

-- a job is certified exactly where none of its starts differs
abbrev pub CertifiedWhereNoneDiffers : Type 0
CertifiedWhereNoneDiffers = (job : Job) → IsJob job → Certified job ↔ NoneDiffers job

-- the sum of the bounds of the boundaries that a start's run meets before boundary k
pub data IsSumOfBounds (job : Job) (start : Start) : ℕ → ℕ → Type 0 where
  nothing : IsSumOfBounds job start 0 0
  more : (k sum c : ℕ) (met : Boundary) → IsSumOfBounds job start k sum → IsBoundaryOf job start k c
      → boundary_at job (at_cycle job start c) ≡ Some met → IsSumOfBounds job start (k + 1) (sum + met.bound)

-- boundary k of a start's run comes, at no later cycle than the sum of the bounds met before it
pub record ComesInTime (job : Job) (start : Start) (k : ℕ) : Type 0 where
  pub cycle : ℕ
  pub sum : ℕ
  pub comes : IsBoundaryOf job start k cycle
  pub bounds : IsSumOfBounds job start k sum
  pub within : cycle ≤ sum

-- where no start differs, each boundary of each start's run comes in time
abbrev pub BoundariesComeInTime : Type 0
BoundariesComeInTime = (job : Job) → IsJob job → NoneDiffers job → (start : Start) → IsStart job start → (k : ℕ)
    → ComesInTime job start k
