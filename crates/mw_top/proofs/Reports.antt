-- From what the files of a request come to, to the report that its status permits.
use Rattle.std.proofs.Common.{◌≡◌, ℕ, List, true, Some, refl, ap, subst}
use Rattle.mw_plan.specs.Files.{FilesRead, IsLeft}
use Rattle.mw_plan.specs.Plan.{done}
use Rattle.mw_top.specs.declared.commands.Work.{Work}
use Rattle.mw_top.specs.declared.status.Status.{Status}
use Rattle.mw_top.specs.declared.status.Status.TheVariants.{Done, Differs, Unknown, Usage, Refused, ReadFault}
use Rattle.mw_top.specs.declared.status.Status.TheVariants.{WriteFault, NoMemory}
use Rattle.mw_top.specs.Answer.{is_worked, IsWorked, IsReport}
use Rattle.mw_top.specs.Call.{Call}
use Rattle.mw_top.specs.Commands.Table.{plan_of, IsAnswer}
use Rattle.mw_top.specs.Request.{RequestData, request_of, files_of, task_of}
use Rattle.mw_top.proofs.Works.{answer_is_worked}

-- the report of work that was done
worked_is_report : (call : Call) (status : Status) (report : List ℕ) → is_worked status ≡ true
    → IsWorked call status report → IsReport call status report
worked_is_report call Done report is worked = worked
worked_is_report call Differs report is worked = worked
worked_is_report call Unknown report is worked = worked
worked_is_report call Usage report is worked = absurd cc
worked_is_report call Refused report is worked = absurd cc
worked_is_report call ReadFault report is worked = absurd cc
worked_is_report call WriteFault report is worked = absurd cc
worked_is_report call NoMemory report is worked = absurd cc

-- ---- the files of a request

-- the files of a request
of_request : (request : RequestData) (files : FilesRead) → files.names ≡ request.files
    → files ≡ files_of request files.contents
of_request request files names = ap (λ (ns : List (List ℕ)). record files { names = ns }) names

-- what was made of them is answered
pub is_answered : (call : Call) (request : RequestData) (files : FilesRead) (work : Work) (status : Status)
    (report : List ℕ)
    → request_of call.words ≡ Some request → files.names ≡ request.files
    → IsLeft (plan_of (task_of request)) call.shelf_before files (done work) → IsAnswer request work status report
    → IsReport call status report
is_answered call request files work status report requested names left answer =
    worked_is_report call status report (answer_is_worked request work status report answer) (record {
      request = request;
      requested = requested;
      contents = files.contents;
      work = work;
      made = subst (λ (fs : FilesRead). IsLeft (plan_of (task_of request)) call.shelf_before fs (done work))
          (of_request request files names) left;
      answer = answer;
    })
