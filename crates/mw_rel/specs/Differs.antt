-- When a start differs: by the first difference between the board's first segment and one described step.
use Rattle.std.specs.Prelude.{◌≡◌, ℕ, ◌+◌, List, [], ◌∷◌, Bool, false, not, find, if◌then◌else◌, ◌==◌, Option, Some}
use Rattle.std.specs.Prelude.{None, option_map}
use Rattle.mw_base.specs.declared.event.Event.{Event}
use Rattle.mw_base.specs.declared.event.Event.TheVariants.{Out, Taken}
use Rattle.mw_cycle.specs.Boundary.{first_segment}
use Rattle.mw_cycle.specs.Environment.{rest_at}
use Rattle.mw_cycle.specs.Run.{BoardRun}
use Rattle.mw_cycle.specs.State.{BoardState}
use Rattle.mw_macro.specs.DescribedStep.{Stepped, step_of}
use Rattle.mw_rel.specs.Relation.{Boundary}
use Rattle.mw_rel.specs.declared.difference.Difference.{Difference}
use Rattle.mw_rel.specs.declared.difference.Difference.TheVariants as differences
use Rattle.mw_rel.specs.Certified.{boundary_at, line_at}
use Rattle.mw_rel.specs.InRelation.{Pair, pair_of, line_holds}
use Rattle.mw_rel.specs.Job.{Job}
use Rattle.mw_rel.specs.Start.{Start, IsStart, addresses_of}

-- the two events are one
abbrev pub same_event : Event → Event → Bool
same_event (Out a) (Out b) = a == b
same_event (Taken a) (Taken b) = a == b
same_event _ _ = false

-- the least number at which two lists disagree, counted from n, or that of the shorter's end where the other goes on
abbrev pub unlike_from : {A : Type 0} → (A → A → Bool) → ℕ → List A → List A → Option ℕ
unlike_from same n [] [] = None
unlike_from same n [] (y ∷ ys) = Some n
unlike_from same n (x ∷ xs) [] = Some n
unlike_from same n (x ∷ xs) (y ∷ ys) = if same x y then unlike_from same (n + 1) xs ys else Some n

-- the same from the lists' beginning
abbrev pub first_unlike : {A : Type 0} → (A → A → Bool) → List A → List A → Option ℕ
first_unlike same xs ys = unlike_from same 0 xs ys

-- the first event that differs
abbrev pub event_difference : List Event → List Event → Option Difference
event_difference board machine = option_map (λ n. differences.Event n) (first_unlike same_event board machine)

-- the stack pointer, where it isn't the boundary's number
abbrev pub pointer_difference : Boundary → BoardState → Option Difference
pointer_difference boundary b = if b.seq.sp == boundary.sp then None else Some differences.StackPointer

-- the left side of the first line that fails
abbrev pub line_difference : Job → Boundary → Pair → Option Difference
line_difference job boundary pair =
    option_map (λ line. differences.Element line.left) (find (λ line. not (line_holds job pair line)) boundary.lines)

-- the least address with two contents
abbrev pub memory_difference : List ℕ → List ℕ → Option Difference
memory_difference board machine = option_map (λ a. differences.Memory a) (first_unlike (λ x y. x == y) board machine)

-- the first of some differences that is there
abbrev pub first_of : List (Option Difference) → Option Difference
first_of [] = None
first_of (None ∷ others) = first_of others
first_of (Some difference ∷ others) = Some difference

-- the first difference at a boundary, between the board's events and its state there and a step: an event, the stack
-- pointer, a line, a memory word
unfoldable pub first_difference : Job → Boundary → List Event → BoardState → Stepped → Option Difference
first_difference job boundary events state step = first_of
    (event_difference events step.events
    ∷ pointer_difference boundary state
    ∷ line_difference job boundary (pair_of state step.state)
    ∷ memory_difference state.memory step.state.memory
    ∷ [])

-- that of a run
abbrev pub difference_at : Job → Boundary → BoardRun → Stepped → Option Difference
difference_at job boundary run step = first_difference job boundary run.events run.state step

-- the described step of a start: its request is the line of the clock that makes the segment's first cycle, and its
-- inputs begin at number 0
abbrev pub first_step : Job → Start → Stepped
first_step job start = step_of job.machine start.pair.machine (line_at job start 0) start.env.inputs 0

-- a start's first segment, where it keeps its bound; nothing where the bound's number of cycles passes without a
-- boundary
abbrev pub segment_of : Job → Start → Option BoardRun
segment_of job start = first_segment job.board job.store start.env start.pair.board
    (addresses_of job) start.boundary.bound

-- what a run shows that stands at a boundary; a segment ends at one, so there is one
abbrev pub shown_at : Job → Start → BoardRun → Option Boundary → Option Difference
shown_at job start run None = Some differences.Late
shown_at job start run (Some boundary) = difference_at job boundary run (first_step job start)

-- what a first segment shows: one that isn't there is late
abbrev pub shown_by : Job → Start → Option BoardRun → Option Difference
shown_by job start None = Some differences.Late
shown_by job start (Some run) = shown_at job start run (boundary_at job run.state.at)

-- the first difference that a start shows
unfoldable pub difference_of : Job → Start → Option Difference
difference_of job start = shown_by job start (segment_of job start)

-- a start of the job differs: it shows this difference
pub record Differs (job : Job) (start : Start) (difference : Difference) : Type 0 where
  pub begins : IsStart job start
  pub shows : difference_of job start ≡ Some difference

-- where the next segment of a run begins: at the boundary reached, with both states there, and what is left of the
-- environment
abbrev pub start_after : Job → Start → BoardRun → Boundary → Start
start_after job start run boundary = record {
  boundary = boundary;
  pair = pair_of run.state (first_step job start).state;
  env = rest_at start.env run.clock;
}

-- a start of the job differs at a step, counted from 1: the steps before show no difference, and this one, from its
-- own boundary, differs
pub data DiffersAt (job : Job) : Start → ℕ → Difference → Type 0 where
  here : (start : Start) (difference : Difference) → Differs job start difference
      → DiffersAt job start 1 difference
  later : (start : Start) (run : BoardRun) (boundary : Boundary) (step : ℕ) (difference : Difference)
      → IsStart job start → difference_of job start ≡ None
      → segment_of job start ≡ Some run → boundary_at job run.state.at ≡ Some boundary
      → DiffersAt job (start_after job start run boundary) step difference
      → DiffersAt job start (step + 1) difference
