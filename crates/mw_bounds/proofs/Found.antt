-- What is found of a boundary whose cases were all gone through, and why it isn't.
use Rattle.std.proofs.Common.{◌≡◌, ℕ, ◌<◌, List, [], Option, Some, None, length, refl, ap, subst, sym, arith}
use Rattle.std.specs.Prelude.{Contains, false}
use Rattle.std.proofs.lemmas.List.Elements.{All-contains}
use Rattle.mw_term.specs.declared.decided.Decided.{Decided}
use Rattle.mw_rel.specs.Case.{IsStartAt, case_of}
use Rattle.mw_rel.specs.Job.{Job, IsJob}
use Rattle.mw_rel.specs.OverBudget.{AreWithin}
use Rattle.mw_rel.specs.Start.{Start}
use Rattle.mw_fork.specs.declared.budget.Budget.{Budget}
use Rattle.mw_fork.specs.Faults.{ForkFault}
use Rattle.mw_explore.specs.declared.fault.Fault.TheVariants as faults
use Rattle.mw_course.proofs.AnyStart.{some_case}
use Rattle.mw_fork.specs.declared.fault.Over.TheVariants.{Nodes, Paths}
use Rattle.mw_fork.specs.Walks.{AreAllCases, HasWalked, StopsWalk}
use Rattle.mw_bounds.specs.declared.extreme.Extremes.{Extremes}
use Rattle.mw_bounds.specs.declared.extreme.Shown.{Shown}
use Rattle.mw_bounds.specs.declared.extreme.Side.{Side}
use Rattle.mw_bounds.specs.declared.extreme.Side.TheVariants.{Least, Greatest}
use Rattle.mw_bounds.specs.Answers.{IsFoundAt, IsShownBy, IsNotFound}
use Rattle.mw_bounds.specs.Extremes.{AreExtremes, ComesLater, IsExtreme, IsExtremeOf, NoneGoesBeyond}

-- what is said of some cases of a boundary
abbrev pub said : Job → (number : ℕ) → Budget → Extremes → List (List Decided) → Type 0
said job number budget extremes cases = AreExtremes job number budget.nodes extremes cases

-- the case of a start is among all
there : (job : Job) (number : ℕ) (cases : List (List Decided)) (start : Start) → AreAllCases job number cases
    → IsStartAt job number start → Contains cases (case_of job start)
there job number cases start all starts =
    all.all (case_of job start) (record { start = start; starts = starts; bits_are = refl })

-- there is one
pub not_none : (job : Job) (number : ℕ) (side : Side) (o : Option Shown) (cases : List (List Decided)) → IsJob job
    → number < length job.relation.boundaries → AreAllCases job number cases → IsExtreme job number side o cases
    → o ≡ None → ⊥
not_none job number side o cases is inside all extreme none =
    let some = some_case job number is inside in
    let among = all.all some.0 some.1 in
    let empty : cases ≡ [] = subst (λ (x : Option Shown). IsExtreme job number side x cases) none extreme in
    absurd (omega (arith, among.1, ap length empty))

-- the extreme of all cases is shown
shows : (job : Job) (number : ℕ) (side : Side) (shown : Shown) (cases : List (List Decided))
    → AreAllCases job number cases → IsExtremeOf job number side shown cases
    → IsShownBy job number shown.length shown.begin
shows job number side shown cases all is = record {
  bits = is.bits;
  of_case = is.of_case;
  has = is.has is.of_case.start is.of_case.chosen.starts is.of_case.of_case;
  first_case = λ other starts same else_.
      All-contains (ComesLater job number shown.length is.bits) cases (case_of job other) is.first_case
      (there job number cases other all starts) other starts refl same else_;
  first = is.first;
}

pub found : (job : Job) (number : ℕ) (budget : Budget) (extremes : Extremes) (least greatest : Shown)
    → HasWalked job number budget.paths (said job number budget extremes) → extremes.least ≡ Some least
    → extremes.greatest ≡ Some greatest
    → IsFoundAt job number budget (record {
      least = least.length;
      least_begin = least.begin;
      greatest = greatest.length;
      greatest_begin = greatest.begin;
    })
found job number budget extremes least greatest walked least_is greatest_is =
    let cases = walked.cases in
    let all = walked.all in
    let low = subst (λ (o : Option Shown). IsExtreme job number Least o cases) least_is walked.says.least in
    let high = subst (λ (o : Option Shown). IsExtreme job number Greatest o cases) greatest_is walked.says.greatest in
    record {
      range_is = record {
        above_least = λ start starts.
            All-contains (NoneGoesBeyond job number Least least.length) cases (case_of job start) low.none_beyond
            (there job number cases start all starts) start starts refl;
        below_greatest = λ start starts.
            All-contains (NoneGoesBeyond job number Greatest greatest.length) cases (case_of job start)
            high.none_beyond
            (there job number cases start all starts) start starts refl;
        least = shows job number Least least cases all low;
        greatest = shows job number Greatest greatest cases all high;
      };
      within = record {
        cases = cases;
        all = all;
        paths = walked.few;
        bits = λ bits feasible.
            All-contains (AreWithin job number budget.nodes) cases bits walked.says.decided (all.all bits feasible);
      };
    }

-- nothing is found where something is over the budget, or memory ran out
pub not_found : (job : Job) (number : ℕ) (budget : Budget) (fault : ForkFault)
    → StopsWalk job number budget false (λ cases. (extremes : Extremes) × said job number budget extremes cases) fault
    → IsNotFound job budget fault
not_found job number budget faults.NoMemory is = tt
not_found job number budget (faults.Over (Nodes boundary prefix word j)) is =
    subst (λ n. IsNotFound job budget (faults.Over (Nodes n prefix word j))) (sym is.0)
    (record { asks = is.1.asks refl; over = is.1.over })
not_found job number budget (faults.Over (Paths boundary limit)) is =
    subst (λ n. IsNotFound job budget (faults.Over (Paths n limit))) (sym is.0) (is.1.limit_is, is.1.over)
