-- The first start of a case that a course has gone through.
use Rattle.std.proofs.Common.{◌≡◌, ℕ, List, Bool, true, false, Option, None, Some, ap, subst, sym, ◌∙◌, length, arith}
use Rattle.std.proofs.lemmas.List.{take_all}
use Rattle.mw_term.specs.declared.decided.Decided.{Decided}
use Rattle.mw_rel.specs.Begin.{Begin}
use Rattle.mw_rel.specs.CaseWords.{CaseWords, case_words}
use Rattle.mw_rel.specs.Job.{Job, IsJob}
use Rattle.mw_rel.specs.PathWords.{path_of}
use Rattle.mw_rel.specs.SteadyStart.{Start}
use Rattle.mw_ready.specs.Thinned.{always_ready}
use Rattle.mw_ready.proofs.Alike.{same_case}
use Rattle.mw_term.specs.Assigned.{Numbers, given_by}
use Rattle.mw_term.specs.Cofactors.{Agree}
use Rattle.mw_term.specs.Functions.{Function, never}
use Rattle.mw_term.specs.WordList.{WordList}
use Rattle.mw_dd.specs.Diagrams.{IsFirst}
use Rattle.mw_symboard.specs.Seen.{AreFirst}
use Rattle.mw_symmach.specs.Turns.{Stepping}
use Rattle.mw_course.specs.declared.run.Run.{Run}
use Rattle.mw_course.specs.Begins.{IsAssigned, IsChosen}
use Rattle.mw_fork.specs.Begins.{IsFirstOfCase, IsOfCase}
use Rattle.mw_course.specs.Listed.{list_of_space}
use Rattle.mw_course.specs.OnWay.{HasMetCase, ground_in}
use Rattle.mw_course.specs.Starts.{IsGround, StandsForStart}
use Rattle.mw_course.proofs.Grounds.{have_starts}
use Rattle.mw_course.proofs.Tracing.{case_met}

-- a case that was met has a start, so its path is true somewhere
pub not_nowhere : (job : Job) (number : ℕ) (elements : List ℕ) (cycles : ℕ) (late : Bool)
    (bits : List Decided) (path : Function) (run : Run) (step : Option Stepping) → IsJob job
    → HasMetCase job number elements cycles late bits path run step → Agree path never → ⊥
not_nowhere job number elements cycles late bits path run step valid met nowhere =
    let bits = bits in
    let case = case_met job number elements cycles late bits path run step valid met in
    let one = (have_starts job number (ground_in run.space elements) valid met.on.stands).reached
    case.start case.starts in
    let on = met.on.cases.only one.0 case.start one.1
    (subst (AreFirst bits) (sym case.bits_are) (take_all (length bits) bits (omega arith))) in
    let both : false ≡ true = sym (nowhere one.0) ∙ on in
    absurd cc

-- the list of what was run is that of the case before anything is compared
uncompared_is : (job : Job) (number : ℕ) (elements : List ℕ) (cycles : ℕ) (late : Bool) (bits : List Decided)
    (path : Function) (run : Run) (step : Option Stepping) → HasMetCase job number elements cycles late bits path run
    step
    → (case_words job number bits).uncompared ≡ list_of_space run.space
uncompared_is job number elements cycles late bits path run None met =
    ap (λ (w : CaseWords). w.uncompared) met.ends.1
uncompared_is job number elements cycles late bits path run (Some step) met =
    ap (λ (w : CaseWords). w.uncompared) met.ends.1.listed

-- the first under which one function holds is so of each that agrees with it
first_same : (f g : Function) (numbers : Numbers) → Agree f g → IsFirst f numbers → IsFirst g numbers
first_same f g numbers same is = record {
  holds = sym (same (given_by numbers)) ∙ is.holds;
  first = λ given holds. is.first given (same given ∙ holds);
}

-- the start that the first assignment on the path gives has the case
pub of_case : (job : Job) (number : ℕ) (elements : List ℕ) (cycles : ℕ) (late : Bool) (bits : List Decided)
    (path : Function) (run : Run) (step : Option Stepping) (numbers : Numbers) (begin : Begin)
    → HasMetCase job number elements cycles late bits path run step → IsFirst path numbers
    → ((elements : List ℕ) → IsGround job number (ground_in run.space elements)
    → (start : Start) × IsChosen job number begin (always_ready start)
    × StandsForStart job number (ground_in run.space elements) (given_by numbers) start)
    → IsOfCase job number bits begin
of_case job number elements cycles late bits path run step numbers begin met first begins =
    let is = begins elements met.on.stands in
    record {
      start = always_ready is.0;
      chosen = is.1;
      of_case = same_case job is.0 ∙ met.whole (given_by numbers) is.0 is.2 first.holds;
    }

-- it is the first of the case
pub first_of_case : (job : Job) (number : ℕ) (elements : List ℕ) (cycles : ℕ) (late : Bool)
    (bits : List Decided) (path : Function) (run : Run) (step : Option Stepping) (numbers : Numbers) (begin : Begin)
    → HasMetCase job number elements cycles late bits path run step → IsFirst path numbers
    → IsAssigned job number (list_of_space run.space) (given_by numbers) begin
    → IsFirstOfCase job number bits begin
first_of_case job number elements cycles late bits path run step numbers begin met first assigned = record {
  numbers = numbers;
  first = first_same path (path_of job number bits) numbers met.on.written first;
  assigned = subst (λ (l : WordList). IsAssigned job number l (given_by numbers) begin)
      (sym (uncompared_is job number elements cycles late bits path run step met)) assigned;
}
