-- Laws of what starts show, from those over the ones without waits.
use Rattle.std.proofs.Common.{◌≡◌, ℕ, Option, Some, None, option_map, refl, sym, ap, ap₂, ◌∙◌, subst}
use Rattle.mw_cycle.specs.Boundary.{IsBoundary}
use Rattle.mw_cycle.specs.Run.{BoardRun}
use Rattle.mw_cycle.specs.SteadyRun.{BoardRun as SteadyRun}
use Rattle.mw_cycle.specs.Thinned.{but_clocks}
use Rattle.mw_macro.specs.DescribedStep.{Stepped}
use Rattle.mw_rel.specs.declared.difference.Difference.{Difference}
use Rattle.mw_rel.specs.declared.difference.Difference.TheVariants.{Late, Event, StackPointer, Element, Memory}
use Rattle.mw_rel.specs.Certified.{boundary_at}
use Rattle.mw_rel.specs.Differs.{segment_of}
use Rattle.mw_rel.specs.InRelation.{InRelation, pair_of}
use Rattle.mw_rel.specs.Job.{Job}
use Rattle.mw_rel.specs.Relation.{Boundary}
use Rattle.mw_rel.specs.Start.{Start, addresses_of}
use Rattle.mw_rel.specs.SteadyLaws.{IsSame as IsSteadySame, IsSumOfBounds as IsSteadySum}
use Rattle.mw_rel.specs.SteadyShown.{Ends as SteadyEnds, IsShown as IsSteadyShown, IsShownAt as IsSteadyShownAt}
use Rattle.mw_rel.proofs.Found as found
use Rattle.mw_rel.proofs.Same as same
use Rattle.mw_rel.proofs.Sums as sums
use Rattle.mw_ready.specs.DifferenceLaws.{BoundariesComeInTime, DifferencesAreFirst, Ends, IsSame, IsShown}
use Rattle.mw_ready.specs.DifferenceLaws.{IsSumOfBounds, SameShowsNothing}
use Rattle.mw_ready.specs.Thinned.{thinned_start}
use Rattle.mw_ready.proofs.Begins.{thinned_are_starts}
use Rattle.mw_ready.proofs.Differences.{at_thinned, differences_are_thinned, segment_thinned, starts_differ_as_thinned}
use Rattle.mw_ready.proofs.Differences.{step_thinned}
use Rattle.mw_ready.proofs.Steps.{none_without, segment_with}

-- ---- which difference

ends_without : (job : Job) (start : Start) (run : BoardRun) (reached : Boundary) → Ends job start run reached
    → SteadyEnds job (thinned_start job start) (but_clocks run) reached
ends_without job start run reached ends = record {
  segment = sym (segment_thinned job start) ∙ ap (option_map but_clocks) ends.segment;
  there = ends.there;
}

shown_without : (job : Job) (start : Start) (difference : Difference) → IsShown job start difference
    → IsSteadyShown job (thinned_start job start) difference
shown_without job start Late late = sym (segment_thinned job start) ∙ ap (option_map but_clocks) late
shown_without job start (Event n) (run, reached, ends, is) =
    (but_clocks run, reached, ends_without job start run reached ends, rw (sym (step_thinned job start)) is)
shown_without job start StackPointer (run, reached, ends, is) =
    (but_clocks run, reached, ends_without job start run reached ends, rw (sym (step_thinned job start)) is)
shown_without job start (Element e) (run, reached, ends, is) =
    (but_clocks run, reached, ends_without job start run reached ends, rw (sym (step_thinned job start)) is)
shown_without job start (Memory a) (run, reached, ends, is) =
    (but_clocks run, reached, ends_without job start run reached ends, rw (sym (step_thinned job start)) is)

-- where a segment without its clocks isn't there, it isn't
none_there : (segment : Option BoardRun) → option_map but_clocks segment ≡ None → segment ≡ None
none_there None is = refl
none_there (Some run) is = cc

-- what is shown without waits, of the start's own segment
record IsOwn (job : Job) (start : Start) (reached : Boundary) (difference : Difference) : Type 0 where
  ran : BoardRun
  ends : Ends job start ran reached
  is : IsSteadyShownAt job (thinned_start job start) (but_clocks ran) reached difference

own_of : (job : Job) (start : Start) (run : SteadyRun) (reached : Boundary) (difference : Difference)
    → SteadyEnds job (thinned_start job start) run reached
    → IsSteadyShownAt job (thinned_start job start) run reached difference → IsOwn job start reached difference
own_of job start run reached difference ends is =
    let own = segment_with job start run (segment_of job start) refl (segment_thinned job start ∙ ends.segment) in
    record {
      ran = own.ran;
      ends = record {
        segment = own.segment;
        there = ap (λ (r : SteadyRun). boundary_at job r.state.at) own.same ∙ ends.there;
      };
      is = subst (λ (r : SteadyRun). IsSteadyShownAt job (thinned_start job start) r reached difference)
          (sym own.same) is;
    }

shown_with : (job : Job) (start : Start) (difference : Difference)
    → IsSteadyShown job (thinned_start job start) difference → IsShown job start difference
shown_with job start Late late = none_there (segment_of job start) (segment_thinned job start ∙ late)
shown_with job start (Event n) (run, reached, ends, is) =
    let own = own_of job start run reached (Event n) ends is in
    (own.ran, reached, own.ends, rw (step_thinned job start) own.is)
shown_with job start StackPointer (run, reached, ends, is) =
    let own = own_of job start run reached StackPointer ends is in
    (own.ran, reached, own.ends, rw (step_thinned job start) own.is)
shown_with job start (Element e) (run, reached, ends, is) =
    let own = own_of job start run reached (Element e) ends is in
    (own.ran, reached, own.ends, rw (step_thinned job start) own.is)
shown_with job start (Memory a) (run, reached, ends, is) =
    let own = own_of job start run reached (Memory a) ends is in
    (own.ran, reached, own.ends, rw (step_thinned job start) own.is)

pub differences_are_first : DifferencesAreFirst
differences_are_first job start difference is =
    let alike = starts_differ_as_thinned job start difference is in
    let thin = thinned_are_starts job start is in
    let law = found.differences_are_first job (thinned_start job start) difference thin in (
      λ differs. shown_with job start difference (law.0 (alike.0 differs)),
      λ shown. alike.1 (law.1 (shown_without job start difference shown)),
    )

-- ---- none

same_with : (job : Job) (start : Start) → IsSteadySame job (thinned_start job start) → IsSame job start
same_with job start is =
    let own = segment_with job start is.run (segment_of job start) refl (segment_thinned job start ∙ is.segment) in
    let step = sym (step_thinned job start) in
    record {
      run = own.ran;
      reached = is.reached;
      segment = own.segment;
      there = ap (λ (r : SteadyRun). boundary_at job r.state.at) own.same ∙ is.there;
      related = subst (InRelation job is.reached)
          (ap₂ (λ (r : SteadyRun) (s : Stepped). pair_of r.state s.state) (sym own.same) step) is.related;
      events = ap (λ (r : SteadyRun). r.events) own.same ∙ is.events ∙ ap (λ (s : Stepped). s.events) step;
    }

same_without : (job : Job) (start : Start) → IsSame job start → IsSteadySame job (thinned_start job start)
same_without job start is =
    let step = step_thinned job start in
    record {
      run = but_clocks is.run;
      reached = is.reached;
      segment = sym (segment_thinned job start) ∙ ap (option_map but_clocks) is.segment;
      there = is.there;
      related = subst (λ (s : Stepped). InRelation job is.reached (pair_of is.run.state s.state)) step is.related;
      events = is.events ∙ ap (λ (s : Stepped). s.events) step;
    }

pub same_shows_nothing : SameShowsNothing
same_shows_nothing job start is begins =
    let thinned = differences_are_thinned job start in
    let law = same.same_shows_nothing job (thinned_start job start) is (thinned_are_starts job start begins) in (
      λ none. same_with job start (law.0 (sym thinned ∙ none)),
      λ both. thinned ∙ law.1 (same_without job start both),
    )

-- ---- in time

sum_with : (job : Job) (start : Start) (k sum : ℕ) → IsSteadySum job (thinned_start job start) k sum
    → IsSumOfBounds job start k sum
sum_with job start k sum IsSteadySum.nothing = IsSumOfBounds.nothing
sum_with job start k sum (IsSteadySum.more j before c met rest comes there) =
    let at = at_thinned job start in
    IsSumOfBounds.more j before c met (sum_with job start j before rest)
    (subst (λ at. IsBoundary (addresses_of job) at j c) (sym at) comes) (ap (λ at. boundary_at job (at c)) at ∙ there)

pub boundaries_come_in_time : BoundariesComeInTime
boundaries_come_in_time job is none start begins k =
    let time = sums.boundaries_come_in_time job is (none_without job none) (thinned_start job start)
    (thinned_are_starts job start begins) k in
    record {
      cycle = time.cycle;
      sum = time.sum;
      comes = subst (λ at. IsBoundary (addresses_of job) at k time.cycle) (sym (at_thinned job start)) time.comes;
      bounds = sum_with job start k time.sum time.bounds;
      within = time.within;
    }
