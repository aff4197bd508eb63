-- How a call ends that prints a board file of version 2.
use Rattle.std.proofs.Common.{◌≡◌, ℕ, List, true}
use Rattle.mw_boardfile.specs.Board.{board_of}
use Rattle.mw_plan.specs.Files.{IsLeft}
use Rattle.mw_plan.specs.Plan.{done}
use Rattle.mw_top.specs.declared.commands.Task.TheVariants as tasks
use Rattle.mw_top.specs.declared.commands.Work.{Work}
use Rattle.mw_top.specs.declared.commands.Work.TheVariants as works
use Rattle.mw_top.specs.declared.fault.Fault.TheVariants.{Board}
use Rattle.mw_top.specs.declared.status.Status.{Status}
use Rattle.mw_top.specs.Answer.{IsEnd, is_worked}
use Rattle.mw_top.specs.Asked.{AsksFor}
use Rattle.mw_top.specs.Call.{Call, Took}
use Rattle.mw_top.specs.Commands.Table.{IsAnswer}
use Rattle.mw_top.specs.Commands.Upgrade.{upgrade_plan}
use Rattle.mw_top.specs.Request.{files_of}
use Rattle.mw_top.specs.Upgraded.{IsUpgradeEnd}
use Rattle.mw_top.proofs.Made.{MakesOnly, made_so, makes_after}
use Rattle.mw_top.proofs.Tasks.{end_of_task}

-- work that is a board to be printed
abbrev IsPrinting : Work → Type 0
IsPrinting (works.Upgrade board) = Unit {0}
IsPrinting other = ⊥

printing : MakesOnly IsPrinting upgrade_plan
unfolding upgrade_plan
printing = makes_after IsPrinting Board board_of _ (λ board. tt {0})

ends_by : (call : Call) (asks : AsksFor tasks.Upgrade call) (contents : List (List ℕ)) (work : Work) (status : Status)
    (report : List ℕ) → IsPrinting work
    → IsLeft upgrade_plan call.shelf_before (files_of asks.request contents) (done work)
    → IsAnswer asks.request work status report → Took call report → IsUpgradeEnd call status
ends_by call asks contents (works.Upgrade board) status report only made answer took = record {
  asks = asks;
  contents = contents;
  board = board;
  made = made;
  status_is = answer.status_is;
  text = report;
  report = took;
  printed = answer.printed;
  same = answer.same;
}
ends_by call asks contents (works.Comparison comparison) status report only made answer took = absurd only
ends_by call asks contents (works.Assembly program) status report only made answer took = absurd only
ends_by call asks contents (works.Run prepared) status report only made answer took = absurd only
ends_by call asks contents (works.Trace trace) status report only made answer took = absurd only
ends_by call asks contents (works.Question question) status report only made answer took = absurd only
ends_by call asks contents (works.Certification job) status report only made answer took = absurd only
ends_by call asks contents (works.Bounds job) status report only made answer took = absurd only
ends_by call asks contents works.Generation status report only made answer took = absurd only
ends_by call asks contents (works.Console console) status report only made answer took = absurd only

pub end_upgrade : (call : Call) (status : Status) → IsEnd call status → AsksFor tasks.Upgrade call
    → is_worked status ≡ true → IsUpgradeEnd call status
end_upgrade call status end asks is =
    let ends = end_of_task tasks.Upgrade call status end asks is in
    ends_by call asks ends.contents ends.work status ends.report
    (made_so IsPrinting upgrade_plan ends.contents ends.work printing ends.made.left_is) ends.made ends.answer ends.took
