-- What is printed of how long segments last, and how a call that asks for it ends.
use Rattle.std.proofs.Common.{◌≡◌, ℕ, ◌<◌, List, ◌++◌, append_assoc, true, Some, refl, ap, subst, ◌∙◌, length}
use Rattle.std.specs.Prelude.{◌∷◌, [], codes}
use Rattle.mw_bounds.specs.declared.length.Length.{Length}
use Rattle.mw_bounds.specs.declared.range.Range.{Range}
use Rattle.mw_bounds.specs.Answers.{IsOver, IsShownBy}
use Rattle.mw_check.proofs.Counters.{counter_of_chosen}
use Rattle.mw_fork.specs.declared.budget.Budget.{Budget}
use Rattle.mw_fork.specs.declared.fault.Over.{Over}
use Rattle.mw_fork.specs.declared.fault.Over.TheVariants.{Nodes, Paths}
use Rattle.mw_plan.specs.Files.{IsLeft}
use Rattle.mw_plan.specs.Plan.{done}
use Rattle.mw_rel.specs.Begin.{Begin}
use Rattle.mw_rel.specs.Job.{Job, IsJob}
use Rattle.mw_replay.specs.Counter.{IsCounter, counter_at}
use Rattle.mw_sim.specs.Texts.{line}
use Rattle.mw_top.specs.declared.commands.Task.TheVariants as tasks
use Rattle.mw_top.specs.declared.commands.Work.{Work}
use Rattle.mw_top.specs.declared.commands.Work.TheVariants as works
use Rattle.mw_top.specs.declared.status.Status.{Status}
use Rattle.mw_top.specs.Answer.{IsEnd, is_worked}
use Rattle.mw_top.specs.Asked.{AsksFor}
use Rattle.mw_top.specs.Bounded.{IsBoundsEnd}
use Rattle.mw_top.specs.Call.{Call, Took}
use Rattle.mw_top.specs.Commands.Bounds.{bounds_plan, length_text, range_line, range_text, shown_text}
use Rattle.mw_top.specs.Commands.Certify.{boundary_over_budget, boundary_text}
use Rattle.mw_top.specs.Commands.Table.{IsAnswer}
use Rattle.mw_top.specs.Request.{files_of}
use Rattle.mw_top.proofs.Made.{MakesOnly, made_so, makes_of_job}
use Rattle.mw_top.proofs.Noes.{nodes_there, paths_there}
use Rattle.mw_top.proofs.Tasks.{end_of_task}

-- ---- what is printed

-- the start that shows a length is that of a counter
pub counter_shown : (job : Job) (number : ℕ) (lasts : Length) (begin : Begin) → IsJob job
    → IsShownBy job number lasts begin → IsCounter job (counter_at number begin)
counter_shown job number lasts begin is shows =
    counter_of_chosen job number begin shows.of_case.start is shows.of_case.chosen

-- the line of a range behind a text
pub line_behind : (t : List ℕ) (job : Job) (number : ℕ) (range : Range)
    → ((((((t ++ boundary_text job number) ++ codes " least ") ++ length_text range.least) ++ codes " greatest ")
    ++ length_text range.greatest) ++ line [])
    ≡ t ++ range_line job number range
unfolding range_line
line_behind t job number range =
    let a = boundary_text job number in
    let b = length_text range.least in
    let c = length_text range.greatest in
    let front : (((t ++ a) ++ codes " least ") ++ b) ++ codes " greatest "
    ≡ t ++ (((a ++ codes " least ") ++ b) ++ codes " greatest ") =
    ap (λ (x : List ℕ). (x ++ b) ++ codes " greatest ") (append_assoc t a (codes " least "))
    ∙ ap (λ (x : List ℕ). x ++ codes " greatest ") (append_assoc t (a ++ codes " least ") b)
    ∙ append_assoc t ((a ++ codes " least ") ++ b) (codes " greatest ") in
    append_assoc ((((t ++ a) ++ codes " least ") ++ b) ++ codes " greatest ") c (line [])
    ∙ ap (λ (x : List ℕ). x ++ line c) front
    ∙ append_assoc t (((a ++ codes " least ") ++ b) ++ codes " greatest ") (line c)

-- ---- what is over a budget

-- the boundary is one of the job's
pub over_there : (job : Job) (budget : Budget) (over : Over) → IsOver job budget over
    → boundary_over_budget over < length job.relation.boundaries
over_there job budget (Nodes number prefix word j) is = nodes_there job number budget.nodes prefix word j is.over
over_there job budget (Paths number limit) is = paths_there job number limit is.1

-- ---- how a call ends

-- work that asks how long the segments of a job last
abbrev IsBounding : Work → Type 0
IsBounding (works.Bounds job) = Unit {0}
IsBounding other = ⊥

bounding : MakesOnly IsBounding bounds_plan
unfolding bounds_plan
bounding = makes_of_job IsBounding (λ job labels. done (works.Bounds job)) (λ job labels. tt {0})

ends_by : (call : Call) (asks : AsksFor tasks.Bounds call) (contents : List (List ℕ)) (work : Work) (status : Status)
    (report : List ℕ) → IsBounding work
    → IsLeft bounds_plan call.shelf_before (files_of asks.request contents) (done work)
    → IsAnswer asks.request work status report → Took call report → IsBoundsEnd call status
ends_by call asks contents (works.Bounds job) status report only made answer took = record {
  asks = asks;
  contents = contents;
  job = job;
  made = made;
  bounds = answer.bounds;
  answers = answer.answers;
  status_is = answer.status_is;
  report = subst (Took call) answer.report_is took;
}
ends_by call asks contents (works.Comparison comparison) status report only made answer took = absurd only
ends_by call asks contents (works.Assembly program) status report only made answer took = absurd only
ends_by call asks contents (works.Run prepared) status report only made answer took = absurd only
ends_by call asks contents (works.Trace trace) status report only made answer took = absurd only
ends_by call asks contents (works.Question question) status report only made answer took = absurd only
ends_by call asks contents (works.Certification job) status report only made answer took = absurd only
ends_by call asks contents works.Generation status report only made answer took = absurd only
ends_by call asks contents (works.Upgrade board) status report only made answer took = absurd only
ends_by call asks contents (works.Console console) status report only made answer took = absurd only

pub end_bounds : (call : Call) (status : Status) → IsEnd call status → AsksFor tasks.Bounds call
    → is_worked status ≡ true → IsBoundsEnd call status
end_bounds call status end asks is =
    let ends = end_of_task tasks.Bounds call status end asks is in
    ends_by call asks ends.contents ends.work status ends.report
    (made_so IsBounding bounds_plan ends.contents ends.work bounding ends.made.left_is) ends.made ends.answer ends.took
