-- What a difference of a start whose run never waits says, without the order in which it is looked for.
use Rattle.std.specs.Prelude.{◌≡◌, ◌≢◌, ◌↔◌, ℕ, ◌<◌, List, All, take, Some, None, slice_get}
use Rattle.mw_cycle.specs.SteadyRun.{BoardRun}
use Rattle.mw_rel.specs.declared.difference.Difference.{Difference}
use Rattle.mw_rel.specs.declared.difference.Difference.TheVariants.{Late, Event, StackPointer, Element, Memory}
use Rattle.mw_rel.specs.Certified.{boundary_at}
use Rattle.mw_rel.specs.SteadyDiffers.{first_step, segment_of, Differs}
use Rattle.mw_rel.specs.InRelation.{Pair, pair_of, Holds}
use Rattle.mw_rel.specs.Job.{Job}
use Rattle.mw_rel.specs.Lines.{Line}
use Rattle.mw_rel.specs.Relation.{Boundary}
use Rattle.mw_rel.specs.SteadyStart.{Start, IsStart}

-- two lists are alike before a number, and not at it
pub record AreUnlikeAt {A : Type 0} (xs ys : List A) (n : ℕ) : Type 0 where
  pub alike : (i : ℕ) → i < n → slice_get xs i ≡ slice_get ys i
  pub unlike : slice_get xs n ≢ slice_get ys n

-- the first line that doesn't hold has this element on its left side
pub record IsFirstToFail (job : Job) (pair : Pair) (lines : List Line) (e : ℕ) : Type 0 where
  pub place : ℕ
  pub line : Line
  pub at : slice_get lines place ≡ Some line
  pub before : All (Holds job pair) (take place lines)
  pub fails : Holds job pair line → ⊥
  pub left : line.left ≡ e

-- a start's segment keeps its bound, and ends at a boundary
pub record Ends (job : Job) (start : Start) (run : BoardRun) (reached : Boundary) : Type 0 where
  pub segment : segment_of job start ≡ Some run
  pub there : boundary_at job run.state.at ≡ Some reached

-- What is so at the boundary reached where an event, the stack pointer, a line or a memory word is the difference:
-- each of those before it in this order is the same on both sides.
abbrev pub IsShownAt : Job → Start → BoardRun → Boundary → Difference → Type 0
IsShownAt job start run reached Late = ⊥
IsShownAt job start run reached (Event n) = AreUnlikeAt run.events (first_step job start).events n
IsShownAt job start run reached StackPointer = (run.events ≡ (first_step job start).events) ×
    (run.state.seq.sp ≢ reached.sp)
IsShownAt job start run reached (Element e) =
    (run.events ≡ (first_step job start).events) × (run.state.seq.sp ≡ reached.sp)
    × IsFirstToFail job (pair_of run.state (first_step job start).state) reached.lines e
IsShownAt job start run reached (Memory a) =
    (run.events ≡ (first_step job start).events) × (run.state.seq.sp ≡ reached.sp)
    × All (Holds job (pair_of run.state (first_step job start).state)) reached.lines
    × AreUnlikeAt run.state.memory (first_step job start).state.memory a

-- A start is late, or its segment ends at a boundary, and there is this difference.
abbrev pub IsShown : Job → Start → Difference → Type 0
IsShown job start Late = segment_of job start ≡ None
IsShown job start other = (run : BoardRun) ×
    (reached : Boundary) × Ends job start run reached × IsShownAt job start run reached other

-- a start without waits differs by a difference exactly where this is the first of the five
abbrev pub DifferencesAreFirst : Type 0
DifferencesAreFirst = (job : Job) (start : Start) (difference : Difference) → IsStart job start
    → Differs job start difference ↔ IsShown job start difference
