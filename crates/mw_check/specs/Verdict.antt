-- What the answers to a job mean.
use Rattle.std.specs.Prelude.{◌≡◌, ℕ, ◌<◌, ◌≤◌, List, All, length, None, slice_get, Some}
use Rattle.mw_term.specs.declared.decided.Decided.{Decided}
use Rattle.mw_rel.specs.Case.{IsBefore, IsCase, IsStartAt}
use Rattle.mw_rel.specs.Certified.{Certified}
use Rattle.mw_rel.specs.Differs.{difference_of}
use Rattle.mw_rel.specs.Job.{Job}
use Rattle.mw_rel.specs.OverBudget.{AreNodesOver, ArePathsOver, AreWithin}
use Rattle.mw_rel.specs.Start.{Start}
use Rattle.mw_fork.specs.declared.budget.Budget.{Budget}
use Rattle.mw_fork.specs.declared.fault.Over.{Over}
use Rattle.mw_fork.specs.declared.fault.Over.TheVariants as overs
use Rattle.mw_fork.specs.Begins.{IsDiffering, IsLeast}
use Rattle.mw_fork.specs.Failing.{ComparisonsAreWithin, NoneDiffersOf}
use Rattle.mw_fork.specs.Walks.{AreFirstCases}
use Rattle.mw_replay.specs.Counter.{Counter, IsCounter}
use Rattle.mw_replay.specs.CounterPrinted.{AreShort}
use Rattle.mw_check.specs.declared.verdict.Summary.{Summary}
use Rattle.mw_check.specs.declared.verdict.Verdict.{Verdict}
use Rattle.mw_check.specs.declared.verdict.Verdict.TheVariants.{Yes, No, Unknown}
use Rattle.mw_check.specs.Cases.{HasCases, HasLongest}

-- ---- yes

-- a boundary has as many cases as its summary says, and its longest segment as many cycles
pub record IsSummary (job : Job) (number : ℕ) (summary : Summary) : Type 0 where
  pub cases : HasCases job number summary.cases
  pub cycles : HasLongest job number summary.cycles

-- there is one of each boundary, in their order
pub record AreSummaries (job : Job) (summaries : List Summary) : Type 0 where
  pub count : length summaries ≡ length job.relation.boundaries
  pub each : (number : ℕ) (summary : Summary) → slice_get summaries number ≡ Some summary → IsSummary job number summary

-- A boundary is within a budget: it has so many cases, no more than the budget's paths; and no path operation of a
-- decided bit or of a comparison has more joint cofactors than the budget's nodes.
pub record IsWithinBudget (job : Job) (budget : Budget) (number : ℕ) : Type 0 where
  pub count : ℕ
  pub cases : HasCases job number count
  pub paths : count ≤ budget.paths
  pub bits : (bits : List Decided) → IsCase job number bits → AreWithin job number budget.nodes bits
  pub comparisons : (bits : List Decided) → IsCase job number bits → ComparisonsAreWithin job number budget.nodes bits

-- so is each
abbrev pub AreWithinBudget : Job → Budget → Type 0
AreWithinBudget job budget = (number : ℕ) → number < length job.relation.boundaries → IsWithinBudget job budget number

-- A yes: the job is certified; there is a summary of each boundary; and all are within the budget.
pub record IsYes (job : Job) (budget : Budget) (summaries : List Summary) : Type 0 where
  pub certified : Certified job
  pub true_summaries : AreSummaries job summaries
  pub within : AreWithinBudget job budget

-- ---- no

-- no start differs at a boundary
abbrev pub NoneDiffersAt : Job → (number : ℕ) → Type 0
NoneDiffersAt job number = (start : Start) → IsStartAt job number start → difference_of job start ≡ None

-- nor at those before one
abbrev pub NoneDiffersBefore : Job → (number : ℕ) → Type 0
NoneDiffersBefore job number = (earlier : ℕ) → earlier < number → NoneDiffersAt job earlier

-- nor in the cases of a boundary that come before some bits
abbrev pub NoneDiffersInCasesBefore : Job → (number : ℕ) → List Decided → Type 0
NoneDiffersInCasesBefore job number bits =
    (other : List Decided) → IsCase job number other → IsBefore other bits → NoneDiffersOf job number other

-- A no: the counter's start differs. It lies in the first boundary, and there in the first case, that has a start that
-- differs; and of these it is the one that the first assignment gives. Each list of it can be read back.
pub record IsNo (job : Job) (counter : Counter) : Type 0 where
  pub counts : IsCounter job counter
  pub bits : List Decided
  pub differs : IsDiffering job counter.boundary bits counter.begin
  pub least : IsLeast job counter.boundary bits counter.begin
  pub first_case : NoneDiffersInCasesBefore job counter.boundary bits
  pub first_boundary : NoneDiffersBefore job counter.boundary
  pub short : AreShort counter.begin.env

-- ---- unknown

-- Unknown by nodes: an operation at the word and bit, in the list of the prefix, is over the budget's nodes; and no
-- start differs at an earlier boundary or in a case before the prefix.
pub record IsUnknownByNodes (job : Job) (budget : Budget) (number : ℕ) (prefix : List Decided)
    (word j : ℕ) : Type 0 where
  pub over : AreNodesOver job number budget.nodes prefix word j
  pub first_case : NoneDiffersInCasesBefore job number prefix
  pub first_boundary : NoneDiffersBefore job number

-- Unknown by paths: the boundary has more cases than the budget's paths, which is the limit; and no start differs at an
-- earlier boundary or in the first cases, as many as the limit.
pub record IsUnknownByPaths (job : Job) (budget : Budget) (number limit : ℕ) : Type 0 where
  pub limit_is : limit ≡ budget.paths
  pub over : ArePathsOver job number limit
  pub cases : List (List Decided)
  pub first : AreFirstCases job number cases
  pub counted : length cases ≡ limit
  pub first_cases : All (NoneDiffersOf job number) cases
  pub first_boundary : NoneDiffersBefore job number

-- by either
abbrev pub IsUnknown : Job → Budget → Over → Type 0
IsUnknown job budget (overs.Nodes number prefix word j) = IsUnknownByNodes job budget number prefix word j
IsUnknown job budget (overs.Paths number limit) = IsUnknownByPaths job budget number limit

-- ---- each

-- what an answer says of a job, within a budget
abbrev pub IsVerdict : Job → Budget → Verdict → Type 0
IsVerdict job budget (Yes summaries) = IsYes job budget summaries
IsVerdict job budget (No counter) = IsNo job counter
IsVerdict job budget (Unknown over) = IsUnknown job budget over
