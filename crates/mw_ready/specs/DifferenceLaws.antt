-- Laws of what starts show, over all starts.
use Rattle.std.specs.Prelude.{◌≡◌, ◌≢◌, ◌↔◌, ℕ, ◌+◌, ◌≤◌, All, Some, None}
use Rattle.mw_cycle.specs.Run.{BoardRun}
use Rattle.mw_rel.specs.declared.difference.Difference.{Difference}
use Rattle.mw_rel.specs.declared.difference.Difference.TheVariants.{Late, Event, StackPointer, Element, Memory}
use Rattle.mw_rel.specs.Certified.{IsBoundaryOf, at_cycle, boundary_at}
use Rattle.mw_rel.specs.Differs.{Differs, difference_of, first_step, segment_of}
use Rattle.mw_rel.specs.InRelation.{Holds, InRelation, pair_of}
use Rattle.mw_rel.specs.Job.{Job, IsJob}
use Rattle.mw_rel.specs.Relation.{Boundary}
use Rattle.mw_rel.specs.Start.{Start, IsStart}
use Rattle.mw_rel.specs.SteadyShown.{AreUnlikeAt, IsFirstToFail}
use Rattle.mw_ready.specs.StartLaws.{NoneDiffers}

-- ---- which difference

-- a start's segment keeps its bound, and ends at a boundary
pub record Ends (job : Job) (start : Start) (run : BoardRun) (reached : Boundary) : Type 0 where
  pub segment : segment_of job start ≡ Some run
  pub there : boundary_at job run.state.at ≡ Some reached

-- what is so at the boundary reached where this is the difference: each before it in this order is the same
abbrev pub IsShownAt : Job → Start → BoardRun → Boundary → Difference → Type 0
IsShownAt job start run reached Late = ⊥
IsShownAt job start run reached (Event n) = AreUnlikeAt run.events (first_step job start).events n
IsShownAt job start run reached StackPointer = (run.events ≡ (first_step job start).events) ×
    (run.state.seq.sp ≢ reached.sp)
IsShownAt job start run reached (Element e) =
    (run.events ≡ (first_step job start).events) × (run.state.seq.sp ≡ reached.sp)
    × IsFirstToFail job (pair_of run.state (first_step job start).state) reached.lines e
IsShownAt job start run reached (Memory a) =
    (run.events ≡ (first_step job start).events) × (run.state.seq.sp ≡ reached.sp)
    × All (Holds job (pair_of run.state (first_step job start).state)) reached.lines
    × AreUnlikeAt run.state.memory (first_step job start).state.memory a

-- a start is late, or its segment ends at a boundary, and there is this difference
abbrev pub IsShown : Job → Start → Difference → Type 0
IsShown job start Late = segment_of job start ≡ None
IsShown job start other = (run : BoardRun) ×
    (reached : Boundary) × Ends job start run reached × IsShownAt job start run reached other

-- a start differs by a difference exactly where this is the first of the five
abbrev pub DifferencesAreFirst : Type 0
DifferencesAreFirst = (job : Job) (start : Start) (difference : Difference) → IsStart job start
    → Differs job start difference ↔ IsShown job start difference

-- ---- none

-- the segment keeps its bound; what it and the described step reach is in relation, and both have the same events
pub record IsSame (job : Job) (start : Start) : Type 0 where
  pub run : BoardRun
  pub reached : Boundary
  pub segment : segment_of job start ≡ Some run
  pub there : boundary_at job run.state.at ≡ Some reached
  pub related : InRelation job reached (pair_of run.state (first_step job start).state)
  pub events : run.events ≡ (first_step job start).events

-- a start shows no difference exactly where it is the same on both sides
abbrev pub SameShowsNothing : Type 0
SameShowsNothing = (job : Job) (start : Start) → IsJob job → IsStart job start
    → (difference_of job start ≡ None) ↔ IsSame job start

-- ---- in time

-- the sum of the bounds of the boundaries that a start's run meets before boundary k
pub data IsSumOfBounds (job : Job) (start : Start) : ℕ → ℕ → Type 0 where
  nothing : IsSumOfBounds job start 0 0
  more : (k sum c : ℕ) (met : Boundary) → IsSumOfBounds job start k sum → IsBoundaryOf job start k c
      → boundary_at job (at_cycle job start c) ≡ Some met → IsSumOfBounds job start (k + 1) (sum + met.bound)

-- boundary k of a start's run comes, at no later cycle than the sum of the bounds met before it
pub record ComesInTime (job : Job) (start : Start) (k : ℕ) : Type 0 where
  pub cycle : ℕ
  pub sum : ℕ
  pub comes : IsBoundaryOf job start k cycle
  pub bounds : IsSumOfBounds job start k sum
  pub within : cycle ≤ sum

-- where no start differs, each boundary of each start's run comes in time
abbrev pub BoundariesComeInTime : Type 0
BoundariesComeInTime = (job : Job) → IsJob job → NoneDiffers job → (start : Start) → IsStart job start → (k : ℕ)
    → ComesInTime job start k
