-- What is shown of the cases of the starts at a boundary, so that they are explored.
use Rattle.std.specs.Prelude.{◌≡◌, ℕ, List, Option}
use Rattle.mw_term.specs.declared.decided.Decided.{Decided}
use Rattle.mw_term.specs.declared.decided.DecidedKind.{DecidedKind}
use Rattle.mw_path.specs.Paths.{path_in}
use Rattle.mw_rel.specs.Begin.{Begin}
use Rattle.mw_rel.specs.Case.{IsCase}
use Rattle.mw_rel.specs.OverBudget.{AreNodesOver}
use Rattle.mw_rel.specs.Views.{job_of}
use Rattle.mw_decide.specs.declared.fault.Place.{Place}
use Rattle.mw_fork.specs.declared.starts.Ended.{Ended}
use Rattle.mw_fork.specs.declared.starts.Starts.{Starts}
use Rattle.mw_fork.specs.Traces.{Traced, Waiting}
use Rattle.mw_course.specs.Courses.{Waits, WaitsOnCourse}
use Rattle.mw_fork.specs.Failing.{IsFoundOf}
use Rattle.mw_course.specs.EndsEach.{EndsEach}
use Rattle.mw_fork.specs.Stops.{IsDecisionOver}
use Rattle.mw_fork.specs.Traces as traces
use Rattle.mw_fork.specs.Traces.{HasGone, HavePaths, IsGoing}
use Rattle.mw_fork.specs.Within.{AreDecidedWithin}

-- the bits are those of a case of the boundary
abbrev pub IsCaseAt : Starts → List Decided → Type 0
IsCaseAt s bits = IsCase (job_of s.job.now) s.boundary bits

-- each decision of the bits is within the budget
abbrev pub AreWithin : Starts → List Decided → Type 0
AreWithin s bits = AreDecidedWithin (job_of s.job.now) s.boundary s.nodes bits

-- a course has come along these bits, and waits for none
pub record HasCome (s : Starts) (traced : Traced) (bits : List Decided) : Type 0 where
  pub going : IsGoing (job_of s.job.now) s.boundary bits traced
  pub within : AreWithin s bits

-- it waits for a bit of this kind behind them, which this term has
pub record Asks (s : Starts) (traced : Traced) (bits : List Decided) (kind : DecidedKind) (term : ℕ) : Type 0 where
  pub elements : List ℕ
  pub cycles : traced.course.cycles ≡ traced.course.run.board.place.cycle
  pub paths : HavePaths traced.course.run.space traced.paths
  pub waits : Waits (job_of s.job.now) s.boundary traced.course.run traced.course.step kind term
  pub on : WaitsOnCourse (job_of s.job.now) s.boundary elements bits (path_in traced.paths) traced.course.run
      traced.course.step kind term
  pub within : AreWithin s bits

-- it has met all bits of a case, which these are
pub record HasGoneThrough (s : Starts) (traced : Traced) (bits : List Decided) : Type 0 where
  pub gone : HasGone (job_of s.job.now) s.boundary bits traced
  pub within : AreWithin s bits

-- one that waits has come along these bits, over what a course has made
pub record IsWaitingAt (s : Starts) (made : Traced) (w : Waiting) (bits : List Decided) : Type 0 where
  pub waits : traces.IsWaiting (job_of s.job.now) s.boundary made.paths bits w
  pub within : AreWithin s bits

-- each start with the case ends so
pub record IsEndAt (s : Starts) (bits : List Decided) (end : Ended) : Type 0 where
  pub each : EndsEach (job_of s.job.now) s.boundary bits end.cycles end.late
  pub within : AreWithin s bits

-- the decision behind these bits is over the budget there
abbrev pub IsOverAt : Starts → (bits : List Decided) → Place → Type 0
IsOverAt s bits place = IsDecisionOver (job_of s.job.now) s.boundary s.nodes bits place.word place.bit

-- this is found, or nothing is, of the starts with the case that differ
abbrev pub IsFoundAt : Starts → (bits : List Decided) → Option Begin → Type 0
IsFoundAt s bits found = IsFoundOf (job_of s.job.now) s.boundary s.nodes bits found

-- an operation of the comparison is over the budget there, in the list of the case
abbrev pub IsComparisonOverAt : Starts → (bits : List Decided) → Place → Type 0
IsComparisonOverAt s bits place = AreNodesOver (job_of s.job.now) s.boundary s.nodes bits place.word place.bit
