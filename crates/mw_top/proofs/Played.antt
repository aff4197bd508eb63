-- How a call ends that runs a PDP-8 program at its console beside a board.
use Rattle.std.proofs.Common.{◌≡◌, ℕ, ◌≤◌, List, true, subst}
use Rattle.mw_check.specs.declared.comparison.Compared.{Compared}
use Rattle.mw_check.specs.declared.comparison.Compared.TheVariants as compared
use Rattle.mw_check.specs.Comparison.{Shows}
use Rattle.mw_plan.specs.Files.{IsLeft}
use Rattle.mw_plan.specs.Plan.{Plan, done, first_by}
use Rattle.mw_rel.specs.declared.difference.Difference.{Difference}
use Rattle.mw_rel.specs.Certified.{Certified}
use Rattle.mw_rel.specs.Differs.{Differs, DiffersAt}
use Rattle.mw_rel.specs.Job.{Job, IsJob}
use Rattle.mw_rel.specs.Start.{Start}
use Rattle.mw_ready.proofs.Steps.{certified_where_none_differs}
use Rattle.mw_replay.proofs.Steps.{none_differs_before}
use Rattle.mw_top.specs.declared.commands.Task.TheVariants as tasks
use Rattle.mw_top.specs.declared.commands.Work.{Work}
use Rattle.mw_top.specs.declared.commands.Work.TheVariants as works
use Rattle.mw_top.specs.declared.fault.Fault.{Fault}
use Rattle.mw_top.specs.declared.fault.Fault.TheVariants.{Text}
use Rattle.mw_top.specs.declared.status.Status.{Status}
use Rattle.mw_top.specs.Answer.{IsEnd, is_worked}
use Rattle.mw_top.specs.Asked.{AsksFor}
use Rattle.mw_top.specs.Call.{Call, Took}
use Rattle.mw_top.specs.Commands.Pal.{keys_of, pal_plan, source_of}
use Rattle.mw_top.specs.Commands.Table.{IsAnswer}
use Rattle.mw_top.specs.Request.{files_of}
use Rattle.mw_top.specs.Played.{AreJudged, IsPalEnd}
use Rattle.mw_top.proofs.Made.{MakesOnly, made_so, makes_after, makes_of_job}
use Rattle.mw_top.proofs.Tasks.{end_of_task}

-- ---- what steps show

-- a start that differs at a step leads to one that differs
one_differs : (job : Job) (start : Start) (step : ℕ) (difference : Difference) → DiffersAt job start step difference
    → (here : Start) × Differs job here difference
one_differs job _ _ _ (DiffersAt.here start difference differs) = (start, differs)
one_differs job _ _ _ (DiffersAt.later start run boundary step difference begins none segment there further) =
    one_differs job _ step difference further

judged_by : (job : Job) (start : Start) (steps : ℕ) (compared : Compared) → IsJob job
    → Shows job start steps compared → AreJudged job start steps compared
judged_by job start steps compared.Same is shows =
    λ step difference within. none_differs_before job start shows.0 steps step difference shows.1 within
judged_by job start steps (compared.Differs step difference) is shows = (
  shows.0,
  shows.1,
  λ certified.
      let one = one_differs job start step difference shows.1 in
      (certified_where_none_differs job is).0 certified one.0 difference one.1,
)

-- ---- the work

-- work that is a program at its console
abbrev IsPlaying : Work → Type 0
IsPlaying (works.Console console) = Unit {0}
IsPlaying other = ⊥

abbrev after_keys : Job → List ℕ → List ℕ → Plan Fault Work
after_keys job memory keys = done (works.Console (record { job = job; memory = memory; keys = keys }))

playing : MakesOnly IsPlaying pal_plan
unfolding pal_plan
playing =
    makes_of_job IsPlaying
    (λ job labels. first_by Text (source_of job) (λ memory. first_by Text keys_of (after_keys job memory)))
    (λ job labels. makes_after IsPlaying Text (source_of job) _ (λ memory.
    makes_after IsPlaying Text keys_of (after_keys job memory) (λ keys. tt {0})))

ends_by : (call : Call) (asks : AsksFor tasks.Console call) (contents : List (List ℕ)) (work : Work) (status : Status)
    (report : List ℕ) → IsPlaying work
    → IsLeft pal_plan call.shelf_before (files_of asks.request contents) (done work)
    → IsAnswer asks.request work status report → Took call report → IsPalEnd call status
ends_by call asks contents (works.Console console) status report only made answer took = record {
  asks = asks;
  contents = contents;
  console = console;
  made = made;
  talk = answer.talk;
  talks = answer.talks;
  compared = answer.told.compared;
  judged = judged_by console.job answer.talks.start asks.request.steps answer.told.compared answer.job_is
      answer.told.shows;
  status_is = answer.told.status_is;
  report = subst (Took call) answer.told.report_is took;
}
ends_by call asks contents (works.Comparison comparison) status report only made answer took = absurd only
ends_by call asks contents (works.Assembly program) status report only made answer took = absurd only
ends_by call asks contents (works.Run prepared) status report only made answer took = absurd only
ends_by call asks contents (works.Trace trace) status report only made answer took = absurd only
ends_by call asks contents (works.Question question) status report only made answer took = absurd only
ends_by call asks contents (works.Certification job) status report only made answer took = absurd only
ends_by call asks contents (works.Bounds job) status report only made answer took = absurd only
ends_by call asks contents works.Generation status report only made answer took = absurd only
ends_by call asks contents (works.Upgrade board) status report only made answer took = absurd only

pub end_pal : (call : Call) (status : Status) → IsEnd call status → AsksFor tasks.Console call
    → is_worked status ≡ true → IsPalEnd call status
end_pal call status end asks is =
    let ends = end_of_task tasks.Console call status end asks is in
    ends_by call asks ends.contents ends.work status ends.report
    (made_so IsPlaying pal_plan ends.contents ends.work playing ends.made.left_is) ends.made ends.answer ends.took
