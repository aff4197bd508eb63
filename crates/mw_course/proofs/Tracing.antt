-- From a course that has met all bits of a case to what is said of cases.
use Rattle.std.proofs.Common.{◌≡◌, ℕ, ◌<◌, ◌≤◌, List, [], length, true, refl, sym, ap, ◌∙◌, subst, arith}
use Rattle.std.specs.Prelude.{Bool, Option, None}
use Rattle.std.proofs.lemmas.List.{take_all}
use Rattle.mw_term.specs.declared.decided.Decided.{Decided}
use Rattle.mw_term.specs.Cofactors.{Agree}
use Rattle.mw_term.specs.Functions.{always, Function}
use Rattle.mw_symboard.specs.Seen.{AreFirst}
use Rattle.mw_symmach.specs.Turns.{Stepping}
use Rattle.mw_rel.specs.SteadyCase.{IsCase, bits_of_cycles, case_of}
use Rattle.mw_rel.specs.Free.{numbered}
use Rattle.mw_rel.specs.Job.{Job, IsJob}
use Rattle.mw_rel.specs.PathWords.{path_of}
use Rattle.mw_rel.specs.TreePaths.{path_along}
use Rattle.mw_rel.specs.Relation.{Boundary}
use Rattle.mw_rel.proofs.Cases.{cases_begin_with_cycles}
use Rattle.mw_rel.proofs.Relations.{solved_at}
use Rattle.mw_ready.specs.Thinned.{thinned_start}
use Rattle.mw_ready.proofs.Alike.{thinned_at}
use Rattle.mw_ready.proofs.Cases.{cases_are_thinned}
use Rattle.mw_course.specs.declared.run.Run.{Run}
use Rattle.mw_course.specs.EndsEach.{EndsEach}
use Rattle.mw_course.specs.OnWay.{HasMetCase, HasMetSegment, IsFirst, IsOnRun, ground_in}
use Rattle.mw_course.specs.Runs.{IsIdle}
use Rattle.mw_course.proofs.Along.{comes_to_next}
use Rattle.mw_course.proofs.Prefixes.{assignment_for, none_feasible}
use Rattle.mw_course.proofs.Grounds.{have_starts}

-- the bound of a boundary
pub bound_within : (job : Job) (number : ℕ) (b : Boundary) → IsJob job → number < length job.relation.boundaries
    → b ≡ numbered job number → (1 ≤ b.bound) × (b.bound ≤ 500)
bound_within job number b is there same =
    let solved = solved_at job number is there in
    subst (λ (x : Boundary). (1 ≤ x.bound) × (x.bound ≤ 500)) (sym same) (solved.some, solved.most)

-- the path of no bits is true always
no_path : (job : Job) (number : ℕ) (bits : List Decided) → bits ≡ [] → path_of job number bits ≡ always
unfolding path_along
no_path job number bits none = ap (path_of job number) none

-- a run that has met no bit is on its way
pub on_run_first : (job : Job) (number : ℕ) (elements : List ℕ) (path : Function) (run : Run) → IsJob job
    → IsFirst job number elements path run → IsIdle run.board 0 → IsOnRun job number elements [] path run 0
on_run_first job number elements path run valid first idle = record {
  on = record {
    stands = first.stands;
    written = subst (Agree path) (sym (no_path job number [] refl)) first.everywhere;
    cases = record {
      first = λ given start is along. refl;
      only = λ given start is begins. first.everywhere given;
    };
    feasible = none_feasible job number (ground_in run.space elements)
        (have_starts job number (ground_in run.space elements) valid first.stands);
  };
  in_run = first.in_run;
  passed = λ given start is along k some most. absurd (omega (arith, some, most));
  unwritten = first.unwritten;
  registers = first.registers;
  listed = λ waits count.
      let bound = (numbered job number).bound in
      let some = (bound_within job number (numbered job number) valid first.stands.there refl).0 in
      comes_to_next job number bound [] run.space run.registers run.board first.before (omega (arith, count))
      (omega (arith, count, some)) first.listed;
}

-- ---- a late segment

-- its bits are all of the case
pub late_met : (job : Job) (number : ℕ) (elements : List ℕ) (cycles : ℕ) (late : Bool) (bits : List Decided)
    (path : Function) (run : Run) → late ≡ true → HasMetSegment job number elements cycles late bits path run
    → HasMetCase job number elements cycles late bits path run None
late_met job number elements cycles late bits path run so met = record {
  on = met.on;
  whole = λ given start is along.
      let ends = met.ended given start is along in
      (cases_begin_with_cycles job start).1 (ends.late_is ∙ so) ∙ ap (bits_of_cycles job start) ends.cycles_are
      ∙ ends.bits_are;
  segment = bits;
  ended = met.ended;
  ends = (so, met.late_listed so);
}

-- ---- a case

-- what it has met is a case of its boundary
pub case_met : (job : Job) (number : ℕ) (elements : List ℕ) (cycles : ℕ) (late : Bool) (bits : List Decided)
    (path : Function) (run : Run) (step : Option Stepping) → IsJob job
    → HasMetCase job number elements cycles late bits path run step
    → IsCase job number bits
case_met job number elements cycles late bits path run step is met =
    let g = ground_in run.space elements in
    let have = have_starts job number g is met.on.stands in
    let at = assignment_for job number g bits have met.on.feasible in
    record {
      start = at.start;
      starts = at.is.starts;
      bits_are = met.whole at.given at.start at.is (met.on.cases.only at.given at.start at.is at.first);
    }

-- each start with this case ends so
pub ends_met : (job : Job) (number : ℕ) (elements : List ℕ) (cycles : ℕ) (late : Bool) (bits : List Decided)
    (path : Function) (run : Run) (step : Option Stepping) → IsJob job
    → HasMetCase job number elements cycles late bits path run step
    → EndsEach job number bits cycles late
ends_met job number elements cycles late bits path run step is met = λ any starts same.
    let start = thinned_start job any in
    let thin = cases_are_thinned job any in
    let of_case : case_of job start ≡ bits = sym thin.bits ∙ same in
    let one = (have_starts job number (ground_in run.space elements) is met.on.stands).reached start
    (thinned_at job number any starts) in
    let begins : AreFirst bits (case_of job start) =
    subst (AreFirst bits) (sym of_case) (take_all (length bits) bits (omega arith)) in
    let ends = met.ended one.0 start one.1 (met.on.cases.only one.0 start one.1 begins) in
    (thin.cycles ∙ ends.cycles_are, thin.late ∙ ends.late_is)
