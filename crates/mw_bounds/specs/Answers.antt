-- What the answers say of how long the segments of a job last.
use Rattle.std.specs.Prelude.{◌≡◌, ◌≢◌, ℕ, ◌≤◌, List, length, slice_get, Some}
use Rattle.mw_term.specs.declared.decided.Decided.{Decided}
use Rattle.mw_rel.specs.Begin.{Begin}
use Rattle.mw_rel.specs.Case.{IsBefore, IsCase, IsStartAt, case_of}
use Rattle.mw_rel.specs.Job.{Job}
use Rattle.mw_rel.specs.OverBudget.{ArePathsOver, AreWithin}
use Rattle.mw_rel.specs.Start.{Start}
use Rattle.mw_fork.specs.declared.budget.Budget.{Budget}
use Rattle.mw_fork.specs.Faults.{ForkFault}
use Rattle.mw_explore.specs.declared.fault.Fault.TheVariants as faults
use Rattle.mw_fork.specs.declared.fault.Over.{Over}
use Rattle.mw_fork.specs.declared.fault.Over.TheVariants.{Nodes, Paths}
use Rattle.mw_fork.specs.Begins.{IsFirstOfCase, IsOfCase}
use Rattle.mw_fork.specs.Stops.{IsDecisionOver}
use Rattle.mw_fork.specs.Walks.{AreAllCases}
use Rattle.mw_bounds.specs.declared.range.Bounds.{Bounds}
use Rattle.mw_bounds.specs.declared.range.Bounds.TheVariants.{Found, Unknown}
use Rattle.mw_bounds.specs.declared.length.Length.{Length}
use Rattle.mw_bounds.specs.declared.range.Range.{Range}
use Rattle.mw_bounds.specs.Lengths.{IsUpTo, length_of}

-- A choice shows a length: its start has it, and is what the first assignment gives that takes the path of the first
-- case, in the order of their bits, that has a start of this length.
pub record IsShownBy (job : Job) (number : ℕ) (lasts : Length) (begin : Begin) : Type 0 where
  pub bits : List Decided
  pub of_case : IsOfCase job number bits begin
  pub has : length_of job of_case.start ≡ lasts
  pub first_case : (other : Start) → IsStartAt job number other → length_of job other ≡ lasts
      → case_of job other ≢ bits → IsBefore bits (case_of job other)
  pub first : IsFirstOfCase job number bits begin

-- the length of every start of a boundary lies between the least and the greatest, and both are shown
pub record IsRange (job : Job) (number : ℕ) (range : Range) : Type 0 where
  pub above_least : (start : Start) → IsStartAt job number start → IsUpTo range.least (length_of job start)
  pub below_greatest : (start : Start) → IsStartAt job number start → IsUpTo (length_of job start) range.greatest
  pub least : IsShownBy job number range.least range.least_begin
  pub greatest : IsShownBy job number range.greatest range.greatest_begin

-- A boundary is within a budget: it has no more cases than the budget's paths, and no path operation of a decided bit
-- has more joint cofactors than the budget's nodes.
pub record IsWithinBudget (job : Job) (budget : Budget) (number : ℕ) : Type 0 where
  pub cases : List (List Decided)
  pub all : AreAllCases job number cases
  pub paths : length cases ≤ budget.paths
  pub bits : (bits : List Decided) → IsCase job number bits → AreWithin job number budget.nodes bits

-- what is found of a boundary
pub record IsFoundAt (job : Job) (number : ℕ) (budget : Budget) (range : Range) : Type 0 where
  pub range_is : IsRange job number range
  pub within : IsWithinBudget job budget number

-- ranges are those of the first boundaries, in their order
abbrev pub AreOfFirst : Job → Budget → List Range → Type 0
AreOfFirst job budget ranges =
    (number : ℕ) (range : Range) → slice_get ranges number ≡ Some range → IsFoundAt job number budget range

-- there is a range of each boundary, in their order
pub record AreFound (job : Job) (budget : Budget) (ranges : List Range) : Type 0 where
  pub count : length ranges ≡ length job.relation.boundaries
  pub each : AreOfFirst job budget ranges

-- The prefix asks for one more bit, and an operation at the word and bit of its list, so none of a comparison, is over the
-- budget's nodes; or a boundary has more cases than the budget's paths, which is the limit.
abbrev pub IsOver : Job → Budget → Over → Type 0
IsOver job budget (Nodes number prefix word j) = IsDecisionOver job number budget.nodes prefix word j
IsOver job budget (Paths number limit) = (limit ≡ budget.paths) × ArePathsOver job number limit

-- what an answer says of a job, within a budget
abbrev pub IsAnswer : Job → Budget → Bounds → Type 0
IsAnswer job budget (Found ranges) = AreFound job budget ranges
IsAnswer job budget (Unknown over) = IsOver job budget over

-- why nothing is found
abbrev pub IsNotFound : Job → Budget → ForkFault → Type 0
IsNotFound job budget (faults.Over over) = IsOver job budget over
IsNotFound job budget faults.NoMemory = Unit {0}
