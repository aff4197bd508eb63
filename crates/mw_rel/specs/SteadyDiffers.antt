-- When a start differs whose run never waits: by the first difference between the board's first segment and one
-- described step.
use Rattle.std.specs.Prelude.{◌≡◌, ℕ, ◌+◌, false, Option, Some}
use Rattle.std.specs.Prelude.{None, slice_index_or}
use Rattle.mw_cycle.specs.SteadyBoundary.{first_segment}
use Rattle.mw_cycle.specs.SteadyEnvironment.{rest_at}
use Rattle.mw_cycle.specs.SteadyRun.{BoardRun}
use Rattle.mw_macro.specs.DescribedStep.{Stepped, step_of}
use Rattle.mw_rel.specs.Relation.{Boundary}
use Rattle.mw_rel.specs.declared.difference.Difference.{Difference}
use Rattle.mw_rel.specs.declared.difference.Difference.TheVariants as differences
use Rattle.mw_rel.specs.Certified.{boundary_at}
use Rattle.mw_rel.specs.Differs.{first_difference}
use Rattle.mw_rel.specs.InRelation.{pair_of}
use Rattle.mw_rel.specs.Job.{Job}
use Rattle.mw_rel.specs.Start.{addresses_of}
use Rattle.mw_rel.specs.SteadyStart.{Start, IsStart}

-- the first difference at the boundary reached
abbrev pub difference_at : Job → Boundary → BoardRun → Stepped → Option Difference
difference_at job boundary run step = first_difference job boundary run.events run.state step

-- the described step of a start: its request is the line in the segment's first cycle, and its inputs begin at number 0
abbrev pub first_step : Job → Start → Stepped
first_step job start = step_of job.machine start.pair.machine (slice_index_or start.env.line 0 false) start.env.inputs 0

-- a start's first segment, where it keeps its bound; nothing where the bound's number of cycles passes without a
-- boundary
abbrev pub segment_of : Job → Start → Option BoardRun
segment_of job start = first_segment job.board job.store start.env start.pair.board
    (addresses_of job) start.boundary.bound

-- what a run shows that stands at a boundary; a segment ends at one, so there is one
abbrev pub shown_at : Job → Start → BoardRun → Option Boundary → Option Difference
shown_at job start run None = Some differences.Late
shown_at job start run (Some boundary) = difference_at job boundary run (first_step job start)

-- what a first segment shows: one that isn't there is late
abbrev pub shown_by : Job → Start → Option BoardRun → Option Difference
shown_by job start None = Some differences.Late
shown_by job start (Some run) = shown_at job start run (boundary_at job run.state.at)

-- the first difference that a start shows
unfoldable pub difference_of : Job → Start → Option Difference
difference_of job start = shown_by job start (segment_of job start)

-- a start of the job differs: it shows this difference
pub record Differs (job : Job) (start : Start) (difference : Difference) : Type 0 where
  pub begins : IsStart job start
  pub shows : difference_of job start ≡ Some difference

-- where the next segment of a run begins: at the boundary reached, with both states there, and what is left of the
-- environment
abbrev pub start_after : Job → Start → BoardRun → Boundary → Start
start_after job start run boundary = record {
  boundary = boundary;
  pair = pair_of run.state (first_step job start).state;
  env = rest_at start.env run.clock;
}

-- a start of the job differs at a step, counted from 1: the steps before show no difference, and this one, from its
-- own boundary, differs
pub data DiffersAt (job : Job) : Start → ℕ → Difference → Type 0 where
  here : (start : Start) (difference : Difference) → Differs job start difference → DiffersAt job start 1 difference
  later : (start : Start) (run : BoardRun) (boundary : Boundary) (step : ℕ) (difference : Difference)
      → IsStart job start → difference_of job start ≡ None
      → segment_of job start ≡ Some run → boundary_at job run.state.at ≡ Some boundary
      → DiffersAt job (start_after job start run boundary) step difference → DiffersAt job start (step + 1) difference
