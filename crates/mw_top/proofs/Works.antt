-- What holds of the work of each task: what answers it, whether it has one answer, and the job that it is on.
use Rattle.std.proofs.Common.{◌≡◌, ℕ, List, [], ◌++◌, true, refl, sym, ap, ◌∙◌, subst}
use Rattle.std.specs.Prelude.{◌≢◌, Bool}
use Rattle.std.proofs.lemmas.List.{append-nil}
use Rattle.mw_asm.specs.Microprogram.{store_of}
use Rattle.mw_boardfile.specs.Board.{board_of}
use Rattle.mw_cases.specs.Operations.{all_operations}
use Rattle.mw_cases.proofs.Unique.{jobs_are_one}
use Rattle.mw_bounds.specs.declared.range.Bounds.{Bounds}
use Rattle.mw_bounds.specs.declared.range.Bounds.TheVariants as bounds
use Rattle.mw_check.specs.declared.comparison.Compared.{Compared}
use Rattle.mw_check.specs.declared.comparison.Compared.TheVariants as compared
use Rattle.mw_check.specs.declared.equality.Equality.{Equality}
use Rattle.mw_check.specs.declared.equality.Equality.TheVariants as equalities
use Rattle.mw_check.specs.declared.verdict.Verdict.{Verdict}
use Rattle.mw_check.specs.declared.verdict.Verdict.TheVariants as verdicts
use Rattle.mw_check.specs.Comparison.{Shows}
use Rattle.mw_check.proofs.Shown.{shows_one}
use Rattle.mw_plan.specs.Plan.{Plan, done, first_by}
use Rattle.mw_rel.specs.Job.{Job}
use Rattle.mw_rel.specs.Start.{Start}
use Rattle.mw_replay.proofs.Starts.{starts_are_one}
use Rattle.mw_replay.specs.Counter.{Counter}
use Rattle.mw_replay.specs.CounterText.{counter_of}
use Rattle.mw_sim.specs.Start.{start_of}
use Rattle.mw_top.specs.declared.commands.Task.{Task}
use Rattle.mw_top.specs.declared.commands.Task.TheVariants as tasks
use Rattle.mw_top.specs.declared.commands.Work.{Work}
use Rattle.mw_top.specs.declared.commands.Work.TheVariants as works
use Rattle.mw_top.specs.declared.fault.Fault.{Fault}
use Rattle.mw_top.specs.declared.fault.Fault.TheVariants.{Board, Text}
use Rattle.mw_top.specs.declared.status.Status.{Status}
use Rattle.mw_top.specs.declared.status.Status.TheVariants.{Done, Differs, Unknown, Usage, Refused, ReadFault}
use Rattle.mw_top.specs.declared.status.Status.TheVariants.{WriteFault, NoMemory}
use Rattle.mw_top.specs.Answer.{is_worked}
use Rattle.mw_top.specs.Commands.Asm.{asm_plan}
use Rattle.mw_top.specs.Commands.Bounds.{bounds_status}
use Rattle.mw_top.specs.Commands.Certify.{IsCertification, certify_plan, verdict_status}
use Rattle.mw_top.specs.Commands.Compare.{IsComparison, compare_plan, compare_report, compare_status}
use Rattle.mw_top.specs.Commands.Debug.{debug_plan, traced}
use Rattle.mw_top.specs.Commands.Equal.{equality_status}
use Rattle.mw_top.specs.Commands.Generate.{generate_plan, operations_text}
use Rattle.mw_top.specs.Commands.Run.{run_plan}
use Rattle.mw_top.specs.Commands.Table.{IsAnswer, budget_of, plan_of, task_row}
use Rattle.mw_top.specs.Headline.{IsJobOf, after_yes}
use Rattle.mw_top.specs.Request.{RequestData}
use Rattle.mw_top.specs.Work.{Comparison}
use Rattle.mw_top.proofs.Made.{MakesOnly, makes_after, makes_of_job}

-- ---- what was made is answered by a status of work that was done

compared_is_worked : (shown : Compared) → is_worked (compare_status shown) ≡ true
compared_is_worked compared.Same = refl
compared_is_worked (compared.Differs step difference) = refl

equality_is_worked : (equality : Equality) → is_worked (equality_status equality) ≡ true
equality_is_worked equalities.Yes = refl
equality_is_worked (equalities.No values) = refl
equality_is_worked (equalities.Unknown word bit) = refl

verdict_is_worked : (verdict : Verdict) → is_worked (verdict_status verdict) ≡ true
verdict_is_worked (verdicts.Yes summaries) = refl
verdict_is_worked (verdicts.No counter) = refl
verdict_is_worked (verdicts.Unknown over) = refl

bounds_are_worked : (answer : Bounds) → is_worked (bounds_status answer) ≡ true
bounds_are_worked (bounds.Found ranges) = refl
bounds_are_worked (bounds.Unknown over) = refl

pub answer_is_worked : (request : RequestData) (work : Work) (status : Status) (report : List ℕ)
    → IsAnswer request work status report → is_worked status ≡ true
answer_is_worked request (works.Comparison comparison) status report answer =
    rw answer.status_is (compared_is_worked answer.compared)
answer_is_worked request (works.Assembly program) status report answer = rw answer.status_is refl
answer_is_worked request (works.Run prepared) status report answer = rw answer.status_is refl
answer_is_worked request (works.Trace trace) status report answer = rw answer.status_is refl
answer_is_worked request (works.Question question) status report answer =
    rw answer.status_is (equality_is_worked answer.equality)
answer_is_worked request (works.Certification job) status report answer =
    rw answer.status_is (verdict_is_worked answer.verdict)
answer_is_worked request (works.Bounds job) status report answer =
    rw answer.status_is (bounds_are_worked answer.bounds)
answer_is_worked request (works.Upgrade board) status report answer = rw answer.status_is refl
answer_is_worked request (works.Console console) status report answer =
    rw answer.told.status_is (compared_is_worked answer.told.compared)
answer_is_worked request works.Generation status report answer =
    rw answer.certified.status_is (verdict_is_worked answer.certified.verdict)

-- ---- whether it has one answer

-- work that has one answer
abbrev pub IsDetermined : Work → Type 0
IsDetermined (works.Question question) = ⊥
IsDetermined (works.Certification job) = ⊥
IsDetermined (works.Bounds job) = ⊥
IsDetermined works.Generation = ⊥
IsDetermined (works.Upgrade board) = ⊥
IsDetermined (works.Console console) = ⊥
IsDetermined other = Unit {0}

abbrev comparison_of : Job → Counter → Plan Fault Work
comparison_of job counter = done (works.Comparison (record { job = job; counter = counter }))

compares : MakesOnly IsDetermined compare_plan
unfolding compare_plan
compares =
    makes_of_job IsDetermined (λ job labels. first_by Text (counter_of job labels) (comparison_of job))
    (λ job labels. makes_after IsDetermined Text (counter_of job labels) (comparison_of job) (λ counter. tt {0}))

-- no task of which the answer is determined makes other work
pub determined : (task : Task) → (task_row task).is_determined ≡ true → MakesOnly IsDetermined (plan_of task)
unfolding asm_plan debug_plan run_plan
determined tasks.Assembly is =
    makes_after IsDetermined Board board_of _ (λ board. makes_after IsDetermined Text (store_of board) _ (λ made. tt))
determined tasks.Comparison is = compares
determined tasks.Run is =
    makes_after IsDetermined Board board_of _ (λ board.
    makes_after IsDetermined Text (store_of board) _ (λ made.
    makes_after IsDetermined Text (start_of board made.labels) _ (λ start. tt)))
determined tasks.Trace is =
    makes_after IsDetermined Board board_of _ (λ board.
    makes_after IsDetermined Text (store_of board) _ (λ made.
    makes_after IsDetermined Text (start_of board made.labels) _ (λ start.
    makes_after IsDetermined Text (traced (record { program = record { board = board; made = made }; start = start })) _
    (λ trace. tt))))
determined tasks.Question is = absurd cc
determined tasks.Certification is = absurd cc
determined tasks.Bounds is = absurd cc
determined tasks.Generation is = absurd cc
determined tasks.Upgrade is = absurd cc
determined tasks.Console is = absurd cc

-- a comparison has one answer
comparison_once : (steps : ℕ) (comparison : Comparison) (status other : Status) (report text : List ℕ)
    → IsComparison steps comparison status report → IsComparison steps comparison other text
    → (other ≡ status) × (text ≡ report)
comparison_once steps comparison status other report text first second =
    let job = comparison.job in
    let starts = starts_are_one job comparison.counter second.start first.start first.job_is first.counter_is.there
    second.begins first.begins in
    let shown = shows_one job first.start steps second.compared first.compared
    (subst (λ (s : Start). Shows job s steps second.compared) starts second.shows) first.shows in (
      second.status_is ∙ ap compare_status shown ∙ sym first.status_is,
      second.report_is ∙ ap (compare_report job steps) shown ∙ sym first.report_is,
    )

-- so has each such work
pub answer_once : (request : RequestData) (parts : Bool) (work : Work) (status other : Status) (report text : List ℕ)
    → IsDetermined work → IsAnswer request work status report
    → IsAnswer (record request { parts = parts }) work other text
    → (other ≡ status) × (text ≡ report)
answer_once request parts (works.Comparison comparison) status other report text only first second =
    comparison_once request.steps comparison status other report text first second
answer_once request parts (works.Assembly program) status other report text only first second =
    (second.status_is ∙ sym first.status_is, second.report_is ∙ sym first.report_is)
answer_once request parts (works.Run prepared) status other report text only first second =
    (second.status_is ∙ sym first.status_is, second.report_is ∙ sym first.report_is)
answer_once request parts (works.Trace trace) status other report text only first second =
    (second.status_is ∙ sym first.status_is, second.report_is ∙ sym first.report_is)
answer_once request parts (works.Question question) status other report text only first second = absurd only
answer_once request parts (works.Certification job) status other report text only first second = absurd only
answer_once request parts (works.Bounds job) status other report text only first second = absurd only
answer_once request parts works.Generation status other report text only first second = absurd only
answer_once request parts (works.Upgrade board) status other report text only first second = absurd only
answer_once request parts (works.Console console) status other report text only first second = absurd only

-- ---- the job that it is on

abbrev pub IsToCertify : Work → Type 0
IsToCertify (works.Certification job) = Unit {0}
IsToCertify works.Generation = Unit {0}
IsToCertify other = ⊥

-- no task that certifies makes other work
pub certifies : (task : Task) → (task_row task).is_certifying ≡ true → MakesOnly IsToCertify (plan_of task)
unfolding certify_plan generate_plan
certifies tasks.Certification is =
    makes_of_job IsToCertify (λ job labels. done (works.Certification job)) (λ job labels. tt {0})
certifies tasks.Generation is = tt
certifies tasks.Comparison is = absurd cc
certifies tasks.Assembly is = absurd cc
certifies tasks.Run is = absurd cc
certifies tasks.Trace is = absurd cc
certifies tasks.Question is = absurd cc
certifies tasks.Bounds is = absurd cc
certifies tasks.Upgrade is = absurd cc
certifies tasks.Console is = absurd cc

-- no number of operations follows another answer than yes
none_after : (status : Status) → status ≢ Done → operations_text status all_operations ≡ []
none_after Done other = absurd (other refl)
none_after Differs other = refl
none_after Unknown other = refl
none_after Usage other = refl
none_after Refused other = refl
none_after ReadFault other = refl
none_after WriteFault other = refl
none_after NoMemory other = refl

-- Work is on a job, and is answered by a certification of it, with which the report begins: behind a yes comes what the
-- work adds, and nothing else.
pub record IsWorkOn (request : RequestData) (work : Work) (status : Status) (report : List ℕ) : Type 0 where
  pub job : Job
  pub job_is : IsJobOf request work job
  pub lines : List ℕ
  pub answer : IsCertification (budget_of request) job status lines
  pub yes : status ≡ Done → report ≡ lines ++ after_yes work
  pub others : status ≢ Done → report ≡ lines

pub certified_work : (request : RequestData) (work : Work) (status : Status) (report : List ℕ) → IsToCertify work
    → IsAnswer request work status report → IsWorkOn request work status report
certified_work request (works.Certification job) status report is answer = record {
  job = job;
  job_is = refl;
  lines = report;
  answer = answer;
  yes = λ done. sym (append-nil report);
  others = λ other. refl;
}
certified_work request works.Generation status report is answer = record {
  job = answer.job;
  job_is = answer.generated;
  lines = answer.certification;
  answer = answer.certified;
  yes = λ done. answer.report_is ∙ ap (λ (s : Status). answer.certification ++ operations_text s all_operations) done;
  others = λ other. answer.report_is ∙ ap (λ (text : List ℕ). answer.certification ++ text) (none_after status other)
      ∙ append-nil answer.certification;
}
certified_work request (works.Comparison comparison) status report is answer = absurd is
certified_work request (works.Assembly program) status report is answer = absurd is
certified_work request (works.Run prepared) status report is answer = absurd is
certified_work request (works.Trace trace) status report is answer = absurd is
certified_work request (works.Question question) status report is answer = absurd is
certified_work request (works.Bounds job) status report is answer = absurd is
certified_work request (works.Upgrade board) status report is answer = absurd is
certified_work request (works.Console console) status report is answer = absurd is

-- it is on one job
pub one_job : (request : RequestData) (work : Work) (job other : Job) → IsJobOf request work job
    → IsJobOf request work other → other ≡ job
one_job request (works.Certification given) job other is also = also ∙ sym is
one_job request works.Generation job other is also = jobs_are_one request.number job other is also
one_job request (works.Comparison comparison) job other is also = absurd is
one_job request (works.Assembly program) job other is also = absurd is
one_job request (works.Run prepared) job other is also = absurd is
one_job request (works.Trace trace) job other is also = absurd is
one_job request (works.Question question) job other is also = absurd is
one_job request (works.Bounds given) job other is also = absurd is
one_job request (works.Upgrade board) job other is also = absurd is
one_job request (works.Console console) job other is also = absurd is
