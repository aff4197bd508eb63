-- What a call that is to certify ends with: the headline.
use Rattle.std.specs.Prelude.{◌≡◌, ℕ, List, [], ◌∷◌, ◌++◌, Bool, true, false, Contains, Ok, Some}
use Rattle.mw_asm.specs.declared.assembled.Label.{Label}
use Rattle.mw_cases.specs.Generated.{IsGenerated}
use Rattle.mw_cases.specs.Operations.{all_operations}
use Rattle.mw_check.specs.declared.verdict.Summary.{Summary}
use Rattle.mw_check.specs.Verdict.{IsNo, IsUnknown, IsYes}
use Rattle.mw_term.specs.declared.decided.Decided.{Decided}
use Rattle.mw_fork.specs.declared.budget.Budget.{Budget}
use Rattle.mw_fork.specs.declared.fault.Over.{Over}
use Rattle.mw_plan.specs.Files.{IsLeft}
use Rattle.mw_plan.specs.Plan.{after, done}
use Rattle.mw_plan.specs.Shelf.{AreTold}
use Rattle.mw_rel.specs.declared.difference.Difference.{Difference}
use Rattle.mw_rel.specs.Certified.{Certified}
use Rattle.mw_rel.specs.Differs.{Differs}
use Rattle.mw_rel.specs.Job.{Job}
use Rattle.mw_rel.specs.OverBudget.{AreNodesOver, ArePathsOver}
use Rattle.mw_rel.specs.Start.{Start}
use Rattle.mw_replay.specs.Counter.{Counter, IsStartOf}
use Rattle.mw_replay.specs.CounterText.{counter_of}
use Rattle.mw_top.specs.declared.commands.Work.{Work}
use Rattle.mw_top.specs.declared.commands.Work.TheVariants.{Certification, Generation}
use Rattle.mw_top.specs.declared.status.Status.{Status}
use Rattle.mw_top.specs.declared.status.Status.TheVariants as statuses
use Rattle.mw_top.specs.Call.{Call, Took}
use Rattle.mw_top.specs.Commands.Certify.{no_report, unknown_report, yes_report}
use Rattle.mw_top.specs.Commands.Generate.{operations_text}
use Rattle.mw_top.specs.Commands.Table.{budget_of, plan_of, task_row}
use Rattle.mw_top.specs.Request.{RequestData, files_of, request_of, task_of}

-- the words ask to certify a job
pub record AsksToCertify (call : Call) : Type 0 where
  pub request : RequestData
  pub requested : request_of call.words ≡ Some request
  pub certifying : (task_row (task_of request)).is_certifying ≡ true

-- the job of work: the one that its files give, or one that is generated of the number
abbrev pub IsJobOf : RequestData → Work → Job → Type 0
IsJobOf request (Certification given) job = job ≡ given
IsJobOf request Generation job = IsGenerated request.number job
IsJobOf request other job = ⊥

-- what stands behind the boundaries of a yes: of a generated job, how many operations it has
abbrev pub after_yes : Work → List ℕ
after_yes Generation = operations_text statuses.Done all_operations
after_yes other = []

-- the words ask to certify within this budget, their files were read and accepted, and the work that was made of them
-- is on this job
pub record Certifies (call : Call) (job : Job) (budget : Budget) : Type 0 where
  pub asks : AsksToCertify call
  pub budget_is : budget ≡ budget_of asks.request
  pub contents : List (List ℕ)
  pub work : Work
  pub made : IsLeft (plan_of (task_of asks.request)) call.shelf_before (files_of asks.request contents) (done work)
  pub job_is : IsJobOf asks.request work job

-- Yes: the job is certified. The report says so, and of each boundary how many feasible cases it has and how many
-- cycles its longest segment; and all is within the budget.
pub record IsYesEnd (call : Call) : Type 0 where
  pub job : Job
  pub budget : Budget
  pub asked : Certifies call job budget
  pub summaries : List Summary
  pub yes : IsYes job budget summaries
  pub report : Took call (yes_report job summaries ++ after_yes asked.work)

-- No: a start differs. The report has the difference, and the start's counter, as which it is read back; and this start
-- is the first that there is to find.
pub record IsNoEnd (call : Call) : Type 0 where
  pub job : Job
  pub budget : Budget
  pub asked : Certifies call job budget
  pub counter : Counter
  pub start : Start
  pub its : IsStartOf job counter start
  pub difference : Difference
  pub differs : Differs job start difference
  pub first : IsNo job counter
  pub report : Took call (no_report job difference counter)
  pub reads_back : (labels : List Label) → counter_of job labels (no_report job difference counter) ≡ Ok counter

-- Unknown: what the report names is over the budget, and no start differs before it.
pub record IsUnknownEnd (call : Call) : Type 0 where
  pub job : Job
  pub budget : Budget
  pub asked : Certifies call job budget
  pub over : Over
  pub unknown : IsUnknown job budget over
  pub report : Took call (unknown_report job over)

-- the words ask to certify within this budget, the shelf tells contents of their files that are accepted, and the work
-- that is made of them is on this job
pub record AreToCertify (call : Call) (job : Job) (budget : Budget) : Type 0 where
  pub asks : AsksToCertify call
  pub budget_is : budget ≡ budget_of asks.request
  pub contents : List (List ℕ)
  pub told : AreTold call.shelf_before asks.request.files contents
  pub work : Work
  pub accepted : after (plan_of (task_of asks.request)) contents ≡ Some (done work)
  pub job_is : IsJobOf asks.request work job

-- no operation and no boundary of a job is over a budget
pub record NothingIsOver (job : Job) (budget : Budget) : Type 0 where
  pub nodes : (number : ℕ) (prefix : List Decided) (word j : ℕ) → ¬ AreNodesOver job number budget.nodes prefix word j
  pub paths : (number : ℕ) → ¬ ArePathsOver job number budget.paths

-- The answer is yes or no, unless memory ran out: yes where the job is certified, and no where it isn't.
pub record IsSettled (job : Job) (status : Status) : Type 0 where
  pub among : Contains (statuses.Done ∷ statuses.Differs ∷ statuses.NoMemory ∷ []) status
  pub yes : status ≡ statuses.Done → Certified job
  pub no : status ≡ statuses.Differs → ¬ Certified job
