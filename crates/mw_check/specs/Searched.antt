-- What is found of the cases of a boundary, and what a search of a job has come to.
use Rattle.std.specs.Prelude.{◌≡◌, ◌⊎◌, ℕ, ◌≤◌, List, [], All, Some, length, slice_get}
use Rattle.std.proofs.Common.{ControlFlow, Break, Continue}
use Rattle.mw_term.specs.declared.decided.Decided.{Decided}
use Rattle.mw_rel.specs.Begin.{Begin}
use Rattle.mw_rel.specs.Case.{IsCase, IsStartAt, case_of, cycles_of}
use Rattle.mw_rel.specs.Job.{Job}
use Rattle.mw_rel.specs.OverBudget.{AreWithin}
use Rattle.mw_rel.specs.Start.{Start}
use Rattle.mw_fork.specs.declared.budget.Budget.{Budget}
use Rattle.mw_fork.specs.Faults.{ForkFault}
use Rattle.mw_explore.specs.declared.fault.Fault.TheVariants.{Over, NoMemory}
use Rattle.mw_fork.specs.Begins.{IsDiffering, IsLeast}
use Rattle.mw_fork.specs.Failing.{ComparisonsAreWithin, NoneDiffersOf}
use Rattle.mw_replay.specs.Counter.{Counter}
use Rattle.mw_check.specs.declared.verdict.Summary.{Summary}
use Rattle.mw_check.specs.Verdict.{IsNo, IsSummary, IsUnknown, IsWithinBudget, NoneDiffersAt, NoneDiffersBefore}

-- A case that was gone through: it is one of the boundary, none of its starts differs, and all is within the budget.
pub record IsGoneThrough (job : Job) (number nodes : ℕ) (bits : List Decided) : Type 0 where
  pub feasible : IsCase job number bits
  pub none : NoneDiffersOf job number bits
  pub decided : AreWithin job number nodes bits
  pub compared : ComparisonsAreWithin job number nodes bits

-- each start with a case has so many cycles at most
abbrev pub HasUpTo : Job → (number cycles : ℕ) → List Decided → Type 0
HasUpTo job number cycles bits =
    (start : Start) → IsStartAt job number start → case_of job start ≡ bits → cycles_of job start ≤ cycles

-- so many are those of a start, or none where there is no case
abbrev pub IsOfOne : Job → (number cycles : ℕ) → List (List Decided) → Type 0
IsOfOne job number cycles cases =
    ((cases ≡ []) × (cycles ≡ 0)) ⊎ ((start : Start) × IsStartAt job number start × (cycles_of job start ≡ cycles))

-- Some cases were gone through; the summary counts them, and has the most cycles of their segments.
pub record AreGoneThrough (job : Job) (number nodes : ℕ) (summary : Summary) (cases : List (List Decided))
    : Type 0 where
  pub each : All (IsGoneThrough job number nodes) cases
  pub counted : length cases ≡ summary.cases
  pub most : All (HasUpTo job number summary.cycles) cases
  pub one : IsOfOne job number summary.cycles cases

-- A choice gives a start of a case that differs: what the first assignment gives among those that are sought.
pub record IsFirstDiffering (job : Job) (number : ℕ) (bits : List Decided) (begin : Begin) : Type 0 where
  pub differs : IsDiffering job number bits begin
  pub least : IsLeast job number bits begin

-- what is found of a boundary at which no start differs
pub record IsSearched (job : Job) (number : ℕ) (budget : Budget) (summary : Summary) : Type 0 where
  pub none : NoneDiffersAt job number
  pub sums : IsSummary job number summary
  pub within : IsWithinBudget job budget number

-- so it is of the boundaries before some number, each of which has its summary
abbrev pub AreSearched : Job → Budget → List Summary → Type 0
AreSearched job budget summaries = (number : ℕ) (summary : Summary) → slice_get summaries number ≡ Some summary
    → IsSearched job number budget summary

-- what a search of a boundary ends with: what is found of it, or the counter of a start that differs, where none does
-- at an earlier one
abbrev pub EndsSearch : Job → (number : ℕ) → Budget → ControlFlow Counter Summary → Type 0
EndsSearch job number budget (Continue summary) = IsSearched job number budget summary
EndsSearch job number budget (Break counter) = NoneDiffersBefore job number → IsNo job counter

-- why a search goes no further
abbrev pub StopsSearch : Job → Budget → ForkFault → Type 0
StopsSearch job budget (Over over) = IsUnknown job budget over
StopsSearch job budget NoMemory = Unit {0}
