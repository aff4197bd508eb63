-- Laws of cases over all starts, from those over the ones without waits.
use Rattle.std.proofs.Common.{◌≡◌, ℕ, ◌<◌, ◌≤◌, Option, Some, None, option_map, refl, sym, ◌∙◌, subst}
use Rattle.std.specs.Prelude.{if◌then◌else◌}
use Rattle.std.specs.Option.{is_none, unwrap_or}
use Rattle.mw_cycle.specs.Boundary.{first_segment}
use Rattle.mw_rel.specs.Case.{end_of}
use Rattle.mw_rel.specs.Certified.{board_run}
use Rattle.mw_rel.specs.Job.{Job}
use Rattle.mw_rel.specs.Start.{Start}
use Rattle.mw_rel.proofs.Cases as steady
use Rattle.mw_ready.specs.CaseLaws.{CasesHaveOneEnd, KindsAreFixed, NoCaseGoesOn, OneCaseIsFirst, SegmentsHaveCycles}
use Rattle.mw_ready.specs.Thinned.{thinned_start}
use Rattle.mw_ready.proofs.Alike.{prefix_without, thinned_at}
use Rattle.mw_ready.proofs.Cases.{case_without, cases_are_thinned}

pub kinds_are_fixed : KindsAreFixed
kinds_are_fixed job number bits x y is one other =
    steady.kinds_are_fixed job number bits x y is (prefix_without job number _ one) (prefix_without job number _ other)

pub no_case_goes_on : NoCaseGoesOn
no_case_goes_on job number first second is one other =
    steady.no_case_goes_on job number first second is (case_without job number first one)
    (case_without job number second other)

pub one_case_is_first : OneCaseIsFirst
one_case_is_first job number first second is one other =
    steady.one_case_is_first job number first second is (case_without job number first one)
    (case_without job number second other)

pub cases_have_one_end : CasesHaveOneEnd
cases_have_one_end job number a b is one other same =
    let first = cases_are_thinned job a in
    let second = cases_are_thinned job b in
    let ends = steady.cases_have_one_end job number (thinned_start job a) (thinned_start job b) is
    (thinned_at job number a one) (thinned_at job number b other) (sym first.bits ∙ same ∙ second.bits) in
    (first.cycles ∙ ends.0 ∙ sym second.cycles, first.late ∙ ends.1 ∙ sym second.late)

-- the run to an end
run_to : (job : Job) (start : Start) (end : Option ℕ) → option_map (board_run job start) end
    ≡ (if is_none end then None else Some (board_run job start (unwrap_or end start.boundary.bound)))
run_to job start None = refl
run_to job start (Some n) = refl

pub segments_have_cycles : SegmentsHaveCycles
unfolding first_segment
segments_have_cycles job number start is at =
    let same = cases_are_thinned job start in
    let has = steady.segments_have_cycles job number (thinned_start job start) is (thinned_at job number start at) in
    record {
      segment = run_to job start (end_of job start);
      some = subst (λ n. 0 < n) (sym same.cycles) has.some;
      within = subst (λ n. n ≤ start.boundary.bound) (sym same.cycles) has.within;
      late = λ late. same.cycles ∙ has.late (sym same.late ∙ late);
    }
