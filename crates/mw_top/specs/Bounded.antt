-- What a call ends with that asks how long the segments of a job last.
use Rattle.std.specs.Prelude.{◌≡◌, ℕ, List}
use Rattle.mw_bounds.specs.declared.range.Bounds.{Bounds}
use Rattle.mw_bounds.specs.Answers.{IsAnswer}
use Rattle.mw_plan.specs.Files.{IsLeft}
use Rattle.mw_plan.specs.Plan.{done}
use Rattle.mw_rel.specs.Job.{Job}
use Rattle.mw_top.specs.declared.commands.Task.TheVariants as tasks
use Rattle.mw_top.specs.declared.commands.Work.TheVariants as works
use Rattle.mw_top.specs.declared.status.Status.{Status}
use Rattle.mw_top.specs.Asked.{AsksFor}
use Rattle.mw_top.specs.Call.{Call, Took}
use Rattle.mw_top.specs.Commands.Bounds.{bounds_plan, bounds_report, bounds_status}
use Rattle.mw_top.specs.Commands.Table.{budget_of}
use Rattle.mw_top.specs.Request.{files_of}

-- The four files were read and accepted. The answer is one of their job, within the budget that the words give: a range
-- of each boundary, or what is over the budget. The status and the report say so.
pub record IsBoundsEnd (call : Call) (status : Status) : Type 0 where
  pub asks : AsksFor tasks.Bounds call
  pub contents : List (List ℕ)
  pub job : Job
  pub made : IsLeft bounds_plan call.shelf_before (files_of asks.request contents) (done (works.Bounds job))
  pub bounds : Bounds
  pub answers : IsAnswer job (budget_of asks.request) bounds
  pub status_is : status ≡ bounds_status bounds
  pub report : Took call (bounds_report job bounds)
