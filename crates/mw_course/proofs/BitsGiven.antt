-- A bit that a course takes.
use Rattle.std.proofs.Common.{◌≡◌, ℕ, ◌++◌, ◌∷◌, List, [], ap, subst, sym, ◌∙◌, arith}
use Rattle.std.specs.Prelude.{Bool, true, Option, Some, None}
use Rattle.mw_term.specs.declared.decided.Decided.{Decided}
use Rattle.mw_cycle.specs.Decided.{decided}
use Rattle.mw_term.specs.declared.decided.DecidedKind.{DecidedKind}
use Rattle.mw_symmem.specs.Memory.{IsOfWidth}
use Rattle.mw_symboard.specs.Turns as board
use Rattle.mw_symboard.specs.Turns.{Symbolic, decided_so}
use Rattle.mw_symmach.specs.Along.{BitsGoAlong}
use Rattle.mw_symmach.specs.Turns.{Stepping, is_asked}
use Rattle.mw_rel.specs.Job.{Job}
use Rattle.mw_course.specs.declared.run.Run.{Run}
use Rattle.mw_course.specs.CasePaths.{IsNextOfCase}
use Rattle.mw_course.specs.Courses.{IsGiven, IsGoing, IsOnCourse, IsOtherCourse, IsReady, Waits, WaitsOnCourse}
use Rattle.mw_course.specs.Courses.{with_board}
use Rattle.mw_course.specs.declared.course.Course.{Course}
use Rattle.mw_course.specs.Listed.{AsksFor}
use Rattle.mw_course.specs.OnWay.{HasDecided, IsOnWay, ground_in, IsOnRun, IsOnStep}
use Rattle.mw_course.proofs.OnRun.{next_of_case, on_decided}
use Rattle.mw_course.proofs.OnStep.{asks_where, takes}
use Rattle.mw_course.proofs.Runs.{decided_under}
use Rattle.mw_course.proofs.Steps.{decided_underway}
use Rattle.mw_term.specs.Functions.{Function}

-- ---- what is waited for

-- a term of one bit
pub waits_wide : (job : Job) (number : ℕ) (run : Run) (step : Option Stepping) (kind : DecidedKind) (term : ℕ)
    → Waits job number run step kind term → IsOfWidth run.space.terms 1 term
waits_wide job number run None kind term waits = waits.2.wide
waits_wide job number run (Some o) kind term waits = waits.1.wide

-- it is the next bit of the cases on the path, and the word list asks for it
pub record IsNextOn (job : Job) (number : ℕ) (elements : List ℕ) (bits : List Decided) (path : Function) (run : Run)
    (kind : DecidedKind) (term : ℕ) : Type 0 where
  pub on : IsOnWay job number (ground_in run.space elements) bits path
  pub next : IsNextOfCase job number (ground_in run.space elements) bits path kind term
  pub asks : AsksFor job number bits (ground_in run.space elements) term

pub next_on : (job : Job) (number : ℕ) (elements : List ℕ) (bits : List Decided) (path : Function) (run : Run)
    (step : Option Stepping) (kind : DecidedKind) (term : ℕ) → Waits job number run step kind term
    → WaitsOnCourse job number elements bits path run step kind term
    → IsNextOn job number elements bits path run kind term
next_on job number elements bits path run None kind term waits turned = record {
  on = turned.0.on;
  next = next_of_case job number elements bits path run kind term waits.1 turned;
  asks = turned.2.here;
}
next_on job number elements bits path run (Some o) kind term waits turned = record {
  on = turned.1.0.on;
  next = turned.1.1;
  asks = asks_where job number run.board.place.cycle elements turned.0 run.board bits run.space path o kind term
      turned.1;
}

-- ---- a bit that is given

-- the course goes on with it, and waits for no bit
pub record GoesOnWith (job : Job) (number : ℕ) (run : Run) (o : Symbolic) (step : Option Stepping)
    : Type 0 where
  pub ready : IsReady job number (with_board run o) step
  pub cycles : o.place.cycle ≡ run.board.place.cycle

ready_by : (job : Job) (number : ℕ) (run : Run) (o : Symbolic) (kind : DecidedKind) (term : ℕ)
    (value : Bool) → Waits job number run None kind term → o ≡ decided_so run.board kind value
    → board.IsSymbolic job.board job.store run.space.terms run.space.words run.space.memory o
    → GoesOnWith job number run o None
ready_by job number run o kind term value waits is symbolic =
    let cycle : o.place.cycle ≡ run.board.place.cycle = ap (λ (b : Symbolic). b.place.cycle) is in
    record {
      ready = (
        decided_under job run.space.terms run.space.words run.space.memory run.board o run.registers kind value term is
            waits.0 waits.2 symbolic,
        ap (λ (b : Symbolic). b.asked) is,
        omega (arith, cycle, waits.1),
      );
      cycles = cycle;
    }

pub given_ready : (job : Job) (number : ℕ) (run : Run) (o : Symbolic) (before after : Option Stepping)
    (kind : DecidedKind) (term : ℕ) (value : Bool) → Waits job number run before kind term
    → IsGiven value run.board o before after → GoesOnWith job number run o after
given_ready job number run o None after kind term value waits given =
    subst (GoesOnWith job number run o) (sym given.0)
    (ready_by job number run o kind term value waits (given.1.new_is kind waits.2.asked)
    (given.1.symbolic job.board job.store run.space.terms run.space.words run.space.memory kind term waits.2
    waits.0.symbolic))
given_ready job number run o (Some step) after kind term value waits given =
    let took = given.3 in
    let t = run.space in
    let decided = took.decided job.machine t.terms t.words t.memory waits.0.stepping in
    subst (GoesOnWith job number run o) (sym given.1) (record {
      ready = (
        decided_underway job.machine t.terms t.words t.memory step given.0 value waits.0 decided,
        ap (λ (b : Stepping). is_asked b.pending) took.new_is,
      );
      cycles = ap (λ (b : Symbolic). b.place.cycle) given.2;
    })

pub given_on : (job : Job) (number : ℕ) (elements : List ℕ) (bits : List Decided) (path : Function) (run : Run)
    (next : Function) (o : Symbolic) (before after : Option Stepping) (kind : DecidedKind) (term : ℕ) (value : Bool)
    → BitsGoAlong → Waits job number run before kind term → WaitsOnCourse job number elements bits path run before
    kind term
    → IsGiven value run.board o before after
    → HasDecided job number (ground_in run.space elements) bits path next kind term value
    → IsOnCourse job number elements (bits ++ decided kind value ∷ []) next (with_board run o) after
given_on job number elements bits path run next o None after kind term value law waits turned given has =
    let is = given.1.new_is kind waits.2.asked in
    subst (IsOnCourse job number elements (bits ++ decided kind value ∷ []) next (with_board run o)) (sym given.0)
    (subst (λ (n : ℕ). IsOnRun job number elements (bits ++ decided kind value ∷ []) next (with_board run o) n)
    (sym (ap (λ (b : Symbolic). b.place.cycle) is))
    (on_decided job number elements bits path run next o kind term value is turned has))
given_on job number elements bits path run next o (Some step) after kind term value law waits turned given has =
    let took = given.3 in
    let t = run.space in
    let stepping = waits.0.stepping in
    subst (IsOnCourse job number elements (bits ++ decided kind value ∷ []) next (with_board run o)) (sym given.1) (
      turned.0,
      subst (λ (b : Symbolic). IsOnStep job number elements b.place.cycle turned.0 b
          (bits ++ decided kind value ∷ []) t next given.0) (sym given.2)
          (takes job number run.board.place.cycle elements turned.0 run.board bits t path next step
          given.0 kind term value waits.1 (took.decided job.machine t.terms t.words t.memory stepping) law took.new_is
          (took.left job.machine t.terms t.words t.memory stepping) has turned.1),
    )

-- ---- a course that goes on

-- with a value of the bit it is on its way, along the path by it
pub goes_with : (job : Job) (number : ℕ) (elements : List ℕ) (bits : List Decided) (path next : Function)
    (old new : Course) (kind : DecidedKind) (term : ℕ) (value : Bool) → BitsGoAlong
    → old.cycles ≡ old.run.board.place.cycle → Waits job number old.run old.step kind term
    → WaitsOnCourse job number elements bits path old.run old.step kind term
    → IsGiven value old.run.board new.run.board old.step new.step → new.run ≡ with_board old.run new.run.board
    → new.cycles ≡ old.cycles
    → HasDecided job number (ground_in old.run.space elements) bits path next kind term value
    → IsGoing job number (bits ++ decided kind value ∷ []) next new
goes_with job number elements bits path next old new kind term value law same waits turned given run cycles has =
    let ready = given_ready job number old.run new.run.board old.step new.step kind term value waits given in
    let on = given_on job number elements bits path old.run next new.run.board old.step new.step kind term value law
    waits turned given has in
    subst (λ (run : Run). IsGoing job number (bits ++ decided kind value ∷ []) next
    (record { run = run; cycles = new.cycles; step = new.step })) (sym run) (record {
      elements = elements;
      cycles = cycles ∙ same ∙ sym ready.cycles;
      ready = ready.ready;
      on = on;
    })

-- so is another with 1
pub other_goes : (job : Job) (number : ℕ) (elements : List ℕ) (bits : List Decided) (path next : Function)
    (course other : Course) (kind : DecidedKind) (term : ℕ) → BitsGoAlong
    → course.cycles ≡ course.run.board.place.cycle → Waits job number course.run course.step kind term
    → WaitsOnCourse job number elements bits path course.run course.step kind term → IsOtherCourse course other
    → HasDecided job number (ground_in course.run.space elements) bits path next kind term true
    → IsGoing job number (bits ++ decided kind true ∷ []) next other
other_goes job number elements bits path next course other kind term law same waits turned is has =
    let run : other.run ≡ with_board course.run other.run.board = λ i. record {
      space = is.space i;
      board = other.run.board;
      registers = is.registers i;
    } in
    goes_with job number elements bits path next course other kind term true law same waits turned is.given run
    is.cycles has
