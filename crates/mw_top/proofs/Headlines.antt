-- From how a call that is to certify ended to the headline.
use Rattle.std.proofs.Common.{◌≡◌, ℕ, List, [], ◌∷◌, ◌++◌, true, Some, refl, sym, ap, ◌∙◌, subst, arith}
use Rattle.std.specs.Prelude.{◌≢◌, Contains}
use Rattle.mw_check.specs.declared.verdict.Verdict.{Verdict}
use Rattle.mw_check.specs.declared.verdict.Verdict.TheVariants as verdicts
use Rattle.mw_check.specs.Verdict.{IsUnknown, IsVerdict}
use Rattle.mw_fork.specs.declared.budget.Budget.{Budget}
use Rattle.mw_fork.specs.declared.fault.Over.{Over}
use Rattle.mw_fork.specs.declared.fault.Over.TheVariants as overs
use Rattle.mw_plan.specs.Files.{IsLeft}
use Rattle.mw_plan.specs.Plan.{Plan, done, refused, file, after}
use Rattle.mw_plan.proofs.Once.{ends_once}
use Rattle.mw_plan.proofs.Steps.{next_is_among}
use Rattle.mw_rel.specs.Certified.{Certified}
use Rattle.mw_rel.specs.Job.{Job, IsJob}
use Rattle.mw_ready.proofs.Steps.{certified_where_none_differs}
use Rattle.mw_top.specs.declared.commands.Task.TheVariants as tasks
use Rattle.mw_top.specs.declared.commands.Work.{Work}
use Rattle.mw_top.specs.declared.commands.Work.TheVariants as works
use Rattle.mw_top.specs.declared.fault.Fault.{Fault}
use Rattle.mw_top.specs.declared.status.Status.{Status}
use Rattle.mw_top.specs.declared.status.Status.TheVariants.{Done, Differs, Unknown, Usage, Refused, ReadFault}
use Rattle.mw_top.specs.declared.status.Status.TheVariants.{WriteFault, NoMemory}
use Rattle.mw_top.specs.Answer.{IsEnd, IsWorked}
use Rattle.mw_top.specs.Call.{Call, NothingFailed, Took}
use Rattle.mw_top.specs.Commands.Certify.{IsVerdictReport, verdict_status}
use Rattle.mw_top.specs.Commands.Generate.{generate_plan}
use Rattle.mw_top.specs.Commands.Table.{IsAnswer, budget_of, plan_of}
use Rattle.mw_top.specs.Headline.{AreToCertify, AsksToCertify, Certifies, IsJobOf, IsNoEnd, IsSettled}
use Rattle.mw_top.specs.Headline.{IsUnknownEnd, IsYesEnd, NothingIsOver, after_yes}
use Rattle.mw_top.specs.Request.{RequestData, files_of, request_of, task_of}
use Rattle.mw_top.proofs.Ends.{end_accepted}
use Rattle.mw_top.proofs.Made.{made_so}
use Rattle.mw_top.proofs.Works.{IsToCertify, IsWorkOn, certified_work, certifies, one_job}

-- ---- the work

-- a plan that asks for no file is done
done_is : (made : Work) (contents : List (List ℕ)) (left : Plan Fault Work) → after (done made) contents ≡ Some left
    → left ≡ done made
done_is made [] left is = cc
done_is made (bytes ∷ rest) left is = absurd cc

generation_is : (contents : List (List ℕ)) (left : Plan Fault Work) → after generate_plan contents ≡ Some left
    → left ≡ done works.Generation
unfolding generate_plan
generation_is = done_is works.Generation

-- the work of words that ask to certify
made_of : (call : Call) (asks : AsksToCertify call) (status : Status) (report : List ℕ)
    → (worked : IsWorked call status report)
    → IsLeft (plan_of (task_of asks.request)) call.shelf_before (files_of asks.request worked.contents)
    (done worked.work)
made_of call asks status report worked =
    let same : worked.request ≡ asks.request = cc (worked.requested, asks.requested) in
    subst (λ (r : RequestData). IsLeft (plan_of (task_of r)) call.shelf_before (files_of r worked.contents)
    (done worked.work)) same worked.made

work_on : (call : Call) (asks : AsksToCertify call) (status : Status) (report : List ℕ)
    → (worked : IsWorked call status report) → IsWorkOn asks.request worked.work status report
work_on call asks status report worked =
    let same : worked.request ≡ asks.request = cc (worked.requested, asks.requested) in
    let task = task_of asks.request in
    certified_work asks.request worked.work status report
    (made_so IsToCertify (plan_of task) worked.contents worked.work (certifies task asks.certifying)
    (made_of call asks status report worked).left_is)
    (subst (λ (r : RequestData). IsAnswer r worked.work status report) same worked.answer)

abbrev asked_of : (call : Call) (asks : AsksToCertify call) (status : Status) (report : List ℕ)
    (worked : IsWorked call status report) (on : IsWorkOn asks.request worked.work status report)
    → Certifies call on.job (budget_of asks.request)
asked_of call asks status report worked on = record {
  asks = asks;
  budget_is = refl;
  contents = worked.contents;
  work = worked.work;
  made = made_of call asks status report worked;
  job_is = on.job_is;
}

-- ---- yes, no and unknown

yes_by : (call : Call) (job : Job) (budget : Budget) (lines : List ℕ) (verdict : Verdict)
    → (asked : Certifies call job budget) → IsVerdict job budget verdict → Done ≡ verdict_status verdict
    → IsVerdictReport job verdict lines → Took call (lines ++ after_yes asked.work) → IsYesEnd call
yes_by call job budget lines (verdicts.Yes summaries) asked is status text took = record {
  job = job;
  budget = budget;
  asked = asked;
  summaries = summaries;
  yes = is;
  report = subst (λ (ls : List ℕ). Took call (ls ++ after_yes asked.work)) text took;
}
yes_by call job budget lines (verdicts.No counter) asked is status text took = absurd cc
yes_by call job budget lines (verdicts.Unknown over) asked is status text took = absurd cc

no_by : (call : Call) (job : Job) (budget : Budget) (report : List ℕ) (verdict : Verdict) → Certifies call job budget
    → IsVerdict job budget verdict → Differs ≡ verdict_status verdict
    → IsVerdictReport job verdict report → Took call report
    → IsNoEnd call
no_by call job budget report (verdicts.No counter) asked is status text took = record {
  job = job;
  budget = budget;
  asked = asked;
  counter = counter;
  start = text.shows.start;
  its = text.shows.its;
  difference = text.difference;
  differs = text.shows.differs;
  first = is;
  report = subst (Took call) text.report_is took;
  reads_back = λ labels. rw text.report_is at (text.reads_back labels);
}
no_by call job budget report (verdicts.Yes summaries) asked is status text took = absurd cc
no_by call job budget report (verdicts.Unknown over) asked is status text took = absurd cc

unknown_by : (call : Call) (job : Job) (budget : Budget) (report : List ℕ) (verdict : Verdict)
    → Certifies call job budget
    → IsVerdict job budget verdict → Unknown ≡ verdict_status verdict → IsVerdictReport job verdict report
    → Took call report → IsUnknownEnd call
unknown_by call job budget report (verdicts.Unknown over) asked is status text took = record {
  job = job;
  budget = budget;
  asked = asked;
  over = over;
  unknown = is;
  report = subst (Took call) text took;
}
unknown_by call job budget report (verdicts.Yes summaries) asked is status text took = absurd cc
unknown_by call job budget report (verdicts.No counter) asked is status text took = absurd cc

pub end_yes : (call : Call) → IsEnd call Done → AsksToCertify call → IsYesEnd call
end_yes call end asks =
    let on = work_on call asks Done end.0 end.1 in
    yes_by call on.job (budget_of asks.request) on.lines on.answer.verdict (asked_of call asks Done end.0 end.1 on)
    on.answer.answers on.answer.status_is on.answer.report_is (subst (Took call) (on.yes refl) end.2)

pub end_no : (call : Call) → IsEnd call Differs → AsksToCertify call → IsNoEnd call
end_no call end asks =
    let on = work_on call asks Differs end.0 end.1 in
    no_by call on.job (budget_of asks.request) on.lines on.answer.verdict (asked_of call asks Differs end.0 end.1 on)
    on.answer.answers on.answer.status_is on.answer.report_is (subst (Took call) (on.others (λ is. cc)) end.2)

pub end_unknown : (call : Call) → IsEnd call Unknown → AsksToCertify call → IsUnknownEnd call
end_unknown call end asks =
    let on = work_on call asks Unknown end.0 end.1 in
    unknown_by call on.job (budget_of asks.request) on.lines on.answer.verdict
    (asked_of call asks Unknown end.0 end.1 on) on.answer.answers on.answer.status_is on.answer.report_is
    (subst (Took call) (on.others (λ is. cc)) end.2)

-- ---- where nothing is over the budget

once : (a b : Work) → ◌≡◌ {A = Plan Fault Work} (done a) (done b) → a ≡ b
once a b same = cc

-- the job that is told is the one that the work is on
same_job : (call : Call) (job : Job) (budget : Budget) (to : AreToCertify call job budget) (status : Status)
    (report : List ℕ) (worked : IsWorked call status report)
    (on : IsWorkOn to.asks.request worked.work status report) → on.job ≡ job
same_job call job budget to status report worked on =
    let request = to.asks.request in
    let same : to.work ≡ worked.work =
    once to.work worked.work (ends_once (plan_of (task_of request)) call.shelf_before
    (files_of request worked.contents) to.contents (done to.work) (done worked.work) to.told to.accepted tt
    (made_of call to.asks status report worked) tt) in
    one_job request worked.work job on.job (subst (λ (w : Work). IsJobOf request w job) same to.job_is) on.job_is

not_over : (job : Job) (budget : Budget) (over : Over) → NothingIsOver job budget → IsUnknown job budget over → ⊥
not_over job budget (overs.Nodes number prefix word j) none is = none.nodes number prefix word j is.over
not_over job budget (overs.Paths number limit) none is =
    none.paths number (rw is.limit_is at is.over)

certified_by : (job : Job) (budget : Budget) (verdict : Verdict) → IsVerdict job budget verdict
    → Done ≡ verdict_status verdict → Certified job
certified_by job budget (verdicts.Yes summaries) is status = is.certified
certified_by job budget (verdicts.No counter) is status = absurd cc
certified_by job budget (verdicts.Unknown over) is status = absurd cc

not_certified_by : (job : Job) (report : List ℕ) (verdict : Verdict) → IsJob job → Differs ≡ verdict_status verdict
    → IsVerdictReport job verdict report → ¬ Certified job
not_certified_by job report (verdicts.No counter) valid status text certified =
    (certified_where_none_differs job valid).0 certified text.shows.start text.difference text.shows.differs
not_certified_by job report (verdicts.Yes summaries) valid status text certified = absurd cc
not_certified_by job report (verdicts.Unknown over) valid status text certified = absurd cc

over_by : (job : Job) (budget : Budget) (verdict : Verdict) → IsVerdict job budget verdict
    → Unknown ≡ verdict_status verdict → NothingIsOver job budget → ⊥
over_by job budget (verdicts.Unknown over) is status none = not_over job budget over none is
over_by job budget (verdicts.Yes summaries) is status none = absurd cc
over_by job budget (verdicts.No counter) is status none = absurd cc

settled_yes : (call : Call) (job : Job) (budget : Budget) → AreToCertify call job budget → IsEnd call Done
    → IsSettled job Done
settled_yes call job budget to end =
    let on = work_on call to.asks Done end.0 end.1 in
    record {
      among = (0, omega arith, refl);
      yes = λ is. subst Certified (same_job call job budget to Done end.0 end.1 on)
          (certified_by on.job (budget_of to.asks.request) on.answer.verdict on.answer.answers on.answer.status_is);
      no = λ is. absurd cc;
    }

settled_no : (call : Call) (job : Job) (budget : Budget) → AreToCertify call job budget → IsEnd call Differs
    → IsSettled job Differs
settled_no call job budget to end =
    let on = work_on call to.asks Differs end.0 end.1 in
    record {
      among = (1, omega arith, refl);
      yes = λ is. absurd cc;
      no = λ is. subst (λ (j : Job). ¬ Certified j) (same_job call job budget to Differs end.0 end.1 on)
          (not_certified_by on.job on.lines on.answer.verdict on.answer.job_is on.answer.status_is on.answer.report_is);
    }

never_unknown : (call : Call) (job : Job) (budget : Budget) → AreToCertify call job budget → NothingIsOver job budget
    → IsEnd call Unknown → ⊥
never_unknown call job budget to none end =
    let on = work_on call to.asks Unknown end.0 end.1 in
    let here : NothingIsOver on.job (budget_of to.asks.request) =
    subst (λ (j : Job). NothingIsOver j (budget_of to.asks.request))
    (sym (same_job call job budget to Unknown end.0 end.1 on))
    (subst (NothingIsOver job) to.budget_is none) in
    over_by on.job (budget_of to.asks.request) on.answer.verdict on.answer.answers on.answer.status_is here

-- contents that are told and accepted are not refused
not_refused : (call : Call) (job : Job) (budget : Budget) → AreToCertify call job budget → (status : Status)
    → IsEnd call status → (status ≢ Usage) × (status ≢ Refused)
not_refused call job budget to status end =
    end_accepted call status end to.asks.request to.contents to.asks.requested to.told (to.work, to.accepted)

pub end_settled : (call : Call) (status : Status) → IsEnd call status → (job : Job) (budget : Budget)
    → AreToCertify call job budget → NothingIsOver job budget → NothingFailed call → IsSettled job status
end_settled call Done end job budget to none still = settled_yes call job budget to end
end_settled call Differs end job budget to none still = settled_no call job budget to end
end_settled call Unknown end job budget to none still = absurd (never_unknown call job budget to none end)
end_settled call Usage end job budget to none still = absurd ((not_refused call job budget to Usage end).0 refl)
end_settled call Refused end job budget to none still = absurd ((not_refused call job budget to Refused end).1 refl)
end_settled call ReadFault end job budget to none still =
    let file = next_is_among _ _ end.1.file end.1.next.name_is in
    absurd (still.shelf end.1.request end.1.requested end.1.file file end.1.failed)
end_settled call WriteFault end job budget to none still = absurd (still.sink end.0)
end_settled call NoMemory end job budget to none still =
    record { among = (2, omega arith, refl); yes = λ is. absurd cc; no = λ is. absurd cc }

-- ---- a number

-- what is left of the plan of a number is the work on it, since it asks for no file
its_left : (call : Call) (request other : RequestData) (contents : List (List ℕ)) (left : Plan Fault Work)
    → request_of call.words ≡ Some request → task_of request ≡ tasks.Generation → request_of call.words ≡ Some other
    → after (plan_of (task_of other)) contents ≡ Some left → left ≡ done works.Generation
its_left call request other contents left requested is requested_too made =
    let same : other ≡ request = cc (requested, requested_too) in
    let plan : plan_of (task_of other) ≡ generate_plan =
    ap (λ (r : RequestData). plan_of (task_of r)) same ∙ ap plan_of is in
    generation_is contents left (subst (λ (p : Plan Fault Work). after p contents ≡ Some left) plan made)

pub end_without_files : (call : Call) (status : Status) → IsEnd call status → (request : RequestData)
    → request_of call.words ≡ Some request → task_of request ≡ tasks.Generation
    → Contains (Done ∷ Differs ∷ Unknown ∷ WriteFault ∷ NoMemory ∷ []) status
end_without_files call Done end request requested is = (0, omega arith, refl)
end_without_files call Differs end request requested is = (1, omega arith, refl)
end_without_files call Unknown end request requested is = (2, omega arith, refl)
end_without_files call WriteFault end request requested is = (3, omega arith, refl)
end_without_files call NoMemory end request requested is = (4, omega arith, refl)
end_without_files call Usage end request requested is = absurd (cc (requested, end.0))
end_without_files call Refused end request requested is =
    let refusal = end.1 in
    let left = its_left call request refusal.request (refusal.contents ++ refusal.refused.last ∷ [])
    (refused refusal.fault) requested is refusal.requested refusal.refused.left.left_is in
    absurd (cc left)
end_without_files call ReadFault end request requested is =
    let fault = end.1 in
    let left = its_left call request fault.request fault.contents (file fault.next.next) requested is fault.requested
    fault.next.left.left_is in
    absurd (cc left)
