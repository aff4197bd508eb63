-- The course of a case.
use Rattle.std.proofs.Common.{◌≡◌, ℕ, ◌<◌, ◌≤◌, List, [], sym, subst, arith, refl, length}
use Rattle.std.specs.Prelude.{true, false, Option, Some, None}
use Rattle.std.specs.Option.{is_none, is_some}
use Rattle.mw_symmem.specs.declared.turn.Turn.{Turn}
use Rattle.mw_symmem.specs.declared.turn.Turn.TheVariants.{Ask, Finished}
use Rattle.mw_symboard.specs.Turns.{Symbolic}
use Rattle.mw_symmach.specs.Turns.{Stepping, is_asked}
use Rattle.mw_term.specs.declared.decided.Decided.{Decided}
use Rattle.mw_term.specs.declared.decided.DecidedKind.{DecidedKind}
use Rattle.mw_rel.specs.Free.{numbered}
use Rattle.mw_rel.specs.Job.{IsJob, Job}
use Rattle.mw_course.specs.declared.course.Course.{Course}
use Rattle.mw_space.specs.declared.space.Space.{Space}
use Rattle.mw_course.specs.declared.run.Run.{Run}
use Rattle.mw_segment.specs.declared.cycles.Came.{Came}
use Rattle.mw_segment.specs.declared.cycles.Came.TheVariants as came
use Rattle.mw_course.specs.Courses.{Comes, HasRun, HaveCome, IsComeTo, IsGoing, IsOnCourse, IsReady, IsTurnedOnCourse}
use Rattle.mw_course.specs.Courses.{Waits, WaitsOnCourse}
use Rattle.mw_course.specs.OnWay.{HasMetCase, HasMetSegment, IsFirst, IsOnRun, IsOnStep, IsRunOf, IsTurnedOnStep}
use Rattle.mw_course.specs.Runs.{IsIdle}
use Rattle.mw_course.specs.Steps.{IsUnderway}
use Rattle.mw_course.proofs.OnStep.{has_met_case}
use Rattle.mw_course.proofs.Tracing.{bound_within, late_met, on_run_first}
use Rattle.mw_term.specs.Functions.{Function}

-- ---- at the boundary

-- one that stands there is on its way, and has met no bit
pub begins : (job : Job) (number : ℕ) (elements : List ℕ) (path : Function) (run : Run) → IsJob job
    → number < length job.relation.boundaries → IsRunOf job run → IsIdle run.board 0
    → IsFirst job number elements path run
    → IsGoing job number [] path (record { run = run; cycles = 0; step = None })
begins job number elements path run valid there under idle first = record {
  elements = elements;
  cycles = sym idle.cycles;
  ready = (
    under,
    idle.idle,
    (let bound = bound_within job number (numbered job number) valid there refl in omega (arith, bound.0, idle.cycles)),
  );
  on = subst (λ (n : ℕ). IsOnRun job number elements [] path run n) (sym idle.cycles)
      (on_run_first job number elements path run valid first idle);
}

-- ---- up to the step

-- a run in its segment has few base reads
has_run : (job : Job) (run : Run) → IsRunOf job run → run.board.place.cycle ≤ 500 → HasRun run
has_run job run under few = record { few = omega (arith, under.reads, few); fresh = under.fresh }

-- so many cycles were made at most
pub comes_few : (job : Job) (number : ℕ) (run : Run) (to : Came) → IsJob job → number < length job.relation.boundaries
    → to ≡ came.Reached → Comes job number run to → run.board.place.cycle ≤ 500
comes_few job number run to valid there is comes =
    let bound = bound_within job number (numbered job number) valid there refl in
    let at = subst (Comes job number run) is comes in
    omega (arith, bound.1, at.2)

-- there is no step before
none_before : (step : Option Stepping) → is_some step ≡ false → step ≡ None
none_before None is = refl
none_before (Some step) is = absurd cc

-- it waits for a bit
pub asks_on : (job : Job) (number : ℕ) (old new : Run) (step : Option Stepping) (to : Came) (kind : DecidedKind)
    (term : ℕ) → to ≡ came.Asks kind term → is_some step ≡ false → Comes job number new to
    → ((elements : List ℕ) (bits : List Decided) (path : Function)
    → IsOnRun job number elements bits path old old.board.place.cycle → IsComeTo job number elements bits path new to)
    → Waits job number new step kind term
    × ((elements : List ℕ) (bits : List Decided) (path : Function) → IsOnCourse job number elements bits path old step
    → WaitsOnCourse job number elements bits path new step kind term)
asks_on job number old new step to kind term is none comes goes =
    subst (λ (o : Option Stepping). Waits job number new o kind term
    × ((elements : List ℕ) (bits : List Decided) (path : Function) → IsOnCourse job number elements bits path old o
    → WaitsOnCourse job number elements bits path new o kind term)) (sym (none_before step none)) (
      subst (λ (c : Came). Comes job number new c) is comes,
      λ elements bits path on.
          subst (λ (c : Came). IsComeTo job number elements bits path new c) is (goes elements bits path on),
    )

-- it is late
pub late_on : (job : Job) (number : ℕ) (old new : Run) (step : Option Stepping) (to : Came) → IsJob job
    → number < length job.relation.boundaries → to ≡ came.Late → is_some step ≡ false → Comes job number new to
    → ((elements : List ℕ) (bits : List Decided) (path : Function)
    → IsOnRun job number elements bits path old old.board.place.cycle → IsComeTo job number elements bits path new to)
    → HasRun new
    × ((elements : List ℕ) (bits : List Decided) (path : Function) → IsOnCourse job number elements bits path old step
    → HasMetCase job number elements new.board.place.cycle (is_none step) bits path new step)
late_on job number old new step to valid there is none comes goes =
    let bound = bound_within job number (numbered job number) valid there refl in
    let at = subst (Comes job number new) is comes in
    subst (λ (o : Option Stepping). HasRun new
    × ((elements : List ℕ) (bits : List Decided) (path : Function) → IsOnCourse job number elements bits path old o
    → HasMetCase job number elements new.board.place.cycle (is_none o) bits path new o)) (sym (none_before step none)) (
      has_run job new at.0 (omega (arith, bound.1, at.2)),
      λ elements bits path on.
          late_met job number elements new.board.place.cycle true bits path new refl
          (subst (λ (c : Came). IsComeTo job number elements bits path new c) is (goes elements bits path on)),
    )

-- the step begins
pub reached_on : (job : Job) (number : ℕ) (old new : Run) (step : Option Stepping) (to : Came) (begun : Stepping)
    → to ≡ came.Reached → is_some step ≡ false
    → ((elements : List ℕ) (bits : List Decided) (path : Function)
    → IsOnRun job number elements bits path old old.board.place.cycle → IsComeTo job number elements bits path new to)
    → IsUnderway job.machine new.space.terms new.space.words new.space.memory begun → is_asked begun.pending ≡ false
    → ((number cycles : ℕ) (elements : List ℕ) (bits : List Decided) (path : Function)
    → HasMetSegment job number elements cycles false bits path new
    → IsOnStep job number elements cycles bits new.board bits new.space path begun)
    → (next : Stepping) × (Some begun ≡ Some next) × IsReady job number new (Some next)
    × ((elements : List ℕ) (bits : List Decided) (path : Function) → IsOnCourse job number elements bits path old step
    → IsOnCourse job number elements bits path new (Some next))
reached_on job number old new step to begun is none goes under idle begins = (
  begun,
  refl,
  (under, idle),
  λ elements bits path.
      subst (λ (o : Option Stepping). IsOnCourse job number elements bits path old o
      → IsOnCourse job number elements bits path new (Some begun)) (sym (none_before step none))
      (λ on. (
        bits,
        begins number new.board.place.cycle elements bits path
            (subst (λ (c : Came). IsComeTo job number elements bits path new c) is (goes elements bits path on)),
      )),
)

-- the map of what a course works on is the board's
map_by : (job : Job) (number : ℕ) (elements : List ℕ) (bits : List Decided) (path : Function) (run : Run)
    (step : Option Stepping) → IsOnCourse job number elements bits path run step
    → run.space.terms.map ≡ job.board.map_entries
map_by job number elements bits path run None on = on.on.stands.space.map
map_by job number elements bits path run (Some step) on = on.1.on.stands.space.map

-- ---- a turn of the step

-- it waits for a bit, or has ended
step_turned : (job : Job) (number : ℕ) (elements : List ℕ) (segment : List Decided) (bits : List Decided)
    (path : Function) (run : Run) (o : Stepping) (turn : Turn)
    → IsTurnedOnStep job number elements run.board.place.cycle segment run.board bits run.space path o turn
    → IsTurnedOnCourse job number elements bits path run (Some o) turn
step_turned job number elements segment bits path run o (Ask kind term) turned = (segment, turned)
step_turned job number elements segment bits path run o Finished turned =
    has_met_case job number run.board.place.cycle elements segment bits path run o refl turned

-- where the step is there, a turn of it is one of the course
pub turned_on : (job : Job) (run : Run) (space : Space) (step : Option Stepping) (there next : Stepping) (turn : Turn)
    → step ≡ Some there
    → ((number cycles : ℕ) (elements : List ℕ) (segment : List Decided) (board : Symbolic) (bits : List Decided)
    (path : Function) → IsOnStep job number elements cycles segment board bits run.space path there
    → IsTurnedOnStep job number elements cycles segment board bits space path next turn)
    → (number : ℕ) (elements : List ℕ) (bits : List Decided) (path : Function)
    → IsOnCourse job number elements bits path run step
    → IsTurnedOnCourse job number elements bits path (record run { space = space }) (Some next) turn
turned_on job run space step there next turn is turns number elements bits path on =
    let before = subst (λ (o : Option Stepping). IsOnCourse job number elements bits path run o) is on in
    step_turned job number elements before.0 bits path (record run { space = space }) next turn
    (turns number run.board.place.cycle elements before.0 run.board bits path before.1)

-- behind the segment
pub come_on : (job : Job) (number : ℕ) (old new : Course) (o : Option Turn) → o ≡ None → HaveCome job number old new o
    → (elements : List ℕ) (bits : List Decided) (path : Function)
    → IsOnCourse job number elements bits path old.run old.step
    → IsOnCourse job number elements bits path new.run new.step
come_on job number old new o none come elements bits path on =
    let is = subst (HaveCome job number old new) none come in
    subst (λ (step : Option Stepping). IsOnCourse job number elements bits path new.run step) (sym is.1)
    (is.3 elements bits path on)

-- ---- what it works on

-- it is of the board's map
pub going_map : (job : Job) (number : ℕ) (bits : List Decided) (path : Function) (course : Course)
    → IsGoing job number bits path course → course.run.space.terms.map ≡ job.board.map_entries
going_map job number bits path course going =
    map_by job number going.elements bits path course.run course.step going.on
