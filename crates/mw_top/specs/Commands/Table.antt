-- The table of the tasks.
use Rattle.std.specs.Prelude.{ℕ, List, Bool, true, false}
use Rattle.mw_fork.specs.declared.budget.Budget.{Budget}
use Rattle.mw_plan.specs.Plan.{Plan}
use Rattle.mw_top.specs.declared.commands.Task.{Task}
use Rattle.mw_top.specs.declared.commands.Task.TheVariants as tasks
use Rattle.mw_top.specs.declared.commands.Work.{Work}
use Rattle.mw_top.specs.declared.commands.Work.TheVariants as works
use Rattle.mw_top.specs.declared.fault.Fault.{Fault}
use Rattle.mw_top.specs.declared.status.Status.{Status}
use Rattle.mw_top.specs.Commands.Asm.{asm_plan, IsListing}
use Rattle.mw_top.specs.Commands.Bounds.{bounds_plan, IsBounding}
use Rattle.mw_top.specs.Commands.Certify.{certify_plan, IsCertification}
use Rattle.mw_top.specs.Commands.Compare.{compare_plan, IsComparison}
use Rattle.mw_top.specs.Commands.Debug.{debug_plan, IsTrace}
use Rattle.mw_top.specs.Commands.Equal.{equal_plan, IsEquality}
use Rattle.mw_top.specs.Commands.Generate.{generate_plan, IsGeneration}
use Rattle.mw_top.specs.Commands.Pal.{pal_plan, IsPal}
use Rattle.mw_top.specs.Commands.Run.{run_plan, IsRun}
use Rattle.mw_top.specs.Commands.Upgrade.{upgrade_plan, IsUpgrade}
use Rattle.mw_top.specs.Request.{RequestData}

-- What a task makes of its files; whether status and report are stated to be a function of the request and of what was
-- read, as the law of `--parts` asks; and whether a job is to be certified.
pub record TaskRow : Type 0 where
  pub plan : Plan Fault Work
  pub is_determined : Bool
  pub is_certifying : Bool

-- the row of each task
abbrev pub task_row : Task → TaskRow
task_row tasks.Comparison = record { plan = compare_plan; is_determined = true; is_certifying = false }
task_row tasks.Assembly = record { plan = asm_plan; is_determined = true; is_certifying = false }
task_row tasks.Run = record { plan = run_plan; is_determined = true; is_certifying = false }
task_row tasks.Trace = record { plan = debug_plan; is_determined = true; is_certifying = false }
task_row tasks.Question = record { plan = equal_plan; is_determined = false; is_certifying = false }
task_row tasks.Certification = record { plan = certify_plan; is_determined = false; is_certifying = true }
task_row tasks.Bounds = record { plan = bounds_plan; is_determined = false; is_certifying = false }
task_row tasks.Generation = record { plan = generate_plan; is_determined = false; is_certifying = true }
task_row tasks.Upgrade = record { plan = upgrade_plan; is_determined = false; is_certifying = false }
task_row tasks.Console = record { plan = pal_plan; is_determined = false; is_certifying = false }

-- what a task makes of its files
abbrev pub plan_of : Task → Plan Fault Work
plan_of task = (task_row task).plan

-- the budget of a request
abbrev pub budget_of : RequestData → Budget
budget_of request = record { nodes = request.nodes; paths = request.paths }

-- the status and the report that a request is answered with, by what was made of its files and by its own numbers
abbrev pub IsAnswer : RequestData → Work → Status → List ℕ → Type 0
IsAnswer request (works.Comparison comparison) status report = IsComparison request.steps comparison status report
IsAnswer request (works.Assembly program) status report = IsListing program status report
IsAnswer request (works.Run prepared) status report = IsRun request.cycles prepared status report
IsAnswer request (works.Trace trace) status report = IsTrace trace status report
IsAnswer request (works.Question question) status report = IsEquality request.nodes question status report
IsAnswer request (works.Certification job) status report = IsCertification (budget_of request) job status report
IsAnswer request (works.Bounds job) status report = IsBounding (budget_of request) job status report
IsAnswer request works.Generation status report = IsGeneration (budget_of request) request.number status report
IsAnswer request (works.Upgrade board) status report = IsUpgrade board status report
IsAnswer request (works.Console console) status report = IsPal request.steps console status report
