-- How a call ends whose words ask for a task.
use Rattle.std.proofs.Common.{◌≡◌, ℕ, List, true, subst}
use Rattle.mw_plan.specs.Files.{IsLeft}
use Rattle.mw_plan.specs.Plan.{done}
use Rattle.mw_top.specs.declared.commands.Task.{Task}
use Rattle.mw_top.specs.declared.commands.Work.{Work}
use Rattle.mw_top.specs.declared.status.Status.{Status}
use Rattle.mw_top.specs.Answer.{IsEnd, is_worked}
use Rattle.mw_top.specs.Asked.{AsksFor}
use Rattle.mw_top.specs.Call.{Call, Took}
use Rattle.mw_top.specs.Commands.Table.{IsAnswer, plan_of}
use Rattle.mw_top.specs.Request.{RequestData, files_of, task_of}
use Rattle.mw_top.proofs.Ends.{end_worked}

-- the files were read as the task's plan says, and the report that was taken answers what was made of them
pub record IsTaskEnd (task : Task) (call : Call) (request : RequestData) (status : Status) : Type 0 where
  pub contents : List (List ℕ)
  pub work : Work
  pub made : IsLeft (plan_of task) call.shelf_before (files_of request contents) (done work)
  pub report : List ℕ
  pub answer : IsAnswer request work status report
  pub took : Took call report

pub end_of_task : (task : Task) (call : Call) (status : Status) → IsEnd call status → (asks : AsksFor task call)
    → is_worked status ≡ true → IsTaskEnd task call asks.request status
end_of_task task call status end asks is =
    let worked_end = end_worked call status end is in
    let worked = worked_end.1 in
    let same : worked.request ≡ asks.request = cc (worked.requested, asks.requested) in
    let left = subst
    (λ (r : RequestData). IsLeft (plan_of (task_of r)) call.shelf_before (files_of r worked.contents) (done worked.work))
    same worked.made in
    record {
      contents = worked.contents;
      work = worked.work;
      made = subst (λ (t : Task). IsLeft (plan_of t) call.shelf_before (files_of asks.request worked.contents)
          (done worked.work)) asks.task_is left;
      report = worked_end.0;
      answer = subst (λ (r : RequestData). IsAnswer r worked.work status worked_end.0) same worked.answer;
      took = worked_end.2;
    }
