-- The law of certification: a job is certified exactly where no start differs.
use Rattle.std.proofs.Common.{◌≡◌, ℕ, zero, suc, ◌+◌, ◌<◌, ◌≤◌, ◌++◌, drop, Some, None, slice_index_or, false, refl}
use Rattle.std.proofs.Common.{sym, ap, ap₂, ◌∙◌, subst, add-one, inl, inr, arith}
use Rattle.std.proofs.lemmas.Bool.{cases_lt}
use Rattle.mw_cycle.specs.Boundary.{IsBoundary}
use Rattle.mw_cycle.specs.SteadyEnvironment.{rest_at}
use Rattle.mw_cycle.specs.SteadyRun.{BoardRun, run_of, then_run}
use Rattle.mw_cycle.proofs.SteadyLists.{rests_are_environments}
use Rattle.mw_cycle.proofs.SteadySuffix.{run_further}
use Rattle.mw_macro.specs.DescribedStep.{Stepped, step_of}
use Rattle.mw_macro.specs.Laws.{inputs_in}
use Rattle.mw_macro.proofs.Steps.{steps_take_from_first}
use Rattle.mw_rel.specs.Relation.{Boundary}
use Rattle.mw_rel.specs.Certified.{boundary_at}
use Rattle.mw_rel.specs.SteadyCertified.{Certified, board_run, at_cycle, IsBoundaryOf, IsKept}
use Rattle.mw_rel.specs.DescribedRun.{before_steps}
use Rattle.mw_rel.specs.SteadyDescribedRun.{IsDescribedRun, with_step}
use Rattle.mw_rel.specs.SteadyDiffers.{first_step, difference_of}
use Rattle.mw_rel.specs.InRelation.{InRelation, pair_of}
use Rattle.mw_rel.specs.Job.{Job, IsJob}
use Rattle.mw_rel.specs.SteadyLaws.{IsSame, NoneDiffers, CertifiedWhereNoneDiffers, StartsFollow}
use Rattle.mw_rel.specs.Start.{addresses_of}
use Rattle.mw_rel.specs.SteadyStart.{Start, IsStart}
use Rattle.mw_rel.proofs.Boundaries.{boundary_once, first_next, next_on}
use Rattle.mw_rel.proofs.Relations.{there_is, is_there}
use Rattle.mw_rel.proofs.Runs.{cycles_are, inputs_are, steps_take, line_left, one_step}
use Rattle.mw_rel.proofs.Same.{segment, segment_is, same_where_none, none_where_same}
use Rattle.mw_rel.proofs.Unlike.{one_some, never_some}

-- ---- from no difference to what is certified, boundary by boundary

-- where a run has come to at boundary k: the start of the segment that begins there
abbrev start_at : (job : Job) (start : Start) (k : ℕ) → IsKept job start k → Start
start_at job start k kept = record {
  boundary = kept.reached;
  pair = pair_of (board_run job start kept.cycle).state kept.steps.state;
  env = rest_at start.env (board_run job start kept.cycle).clock;
}

begins_there : (job : Job) (start : Start) (k : ℕ) (kept : IsKept job start k) → IsStart job start
    → IsStart job (start_at job start k kept)
begins_there job start k kept begins = record {
  boundary = is_there job _ kept.reached kept.there;
  related = kept.related;
  env = rests_are_environments job.board start.env (board_run job start kept.cycle).clock begins.env;
}

-- boundary 0
first_there : (job : Job) (start : Start) → IsJob job → IsStart job start
    → boundary_at job (at_cycle job start 0) ≡ Some start.boundary
unfolding run_of
first_there job start is begins =
    ap (boundary_at job) begins.related.at ∙ there_is job begins.boundary.0 start.boundary is begins.boundary.1

kept_first : (job : Job) (start : Start) → IsJob job → IsStart job start → IsKept job start 0
unfolding run_of
kept_first job start is begins = record {
  cycle = 0;
  steps = before_steps start.pair.machine;
  reached = start.boundary;
  comes = IsBoundary.first;
  bounds = λ j c d from below. absurd (omega arith);
  described = IsDescribedRun.begins;
  there = first_there job start is begins;
  related = begins.related;
  events = refl;
}

-- the run from boundary k on is the rest of the whole run
goes_on : (job : Job) (start : Start) (k : ℕ) (kept : IsKept job start k) (n : ℕ)
    → board_run job start (kept.cycle + n) ≡ then_run (board_run job start kept.cycle)
    (board_run job (start_at job start k kept) n)
goes_on job start k kept n = run_further job.board job.store start.env start.pair.board kept.cycle n

-- the step of the segment that begins at boundary k is the next step of the described run
next_step : (job : Job) (start : Start) (k : ℕ) (kept : IsKept job start k)
    → first_step job (start_at job start k kept)
    ≡ step_of job.machine kept.steps.state
    (slice_index_or start.env.line kept.cycle false) start.env.inputs kept.steps.taken
next_step job start k kept =
    let run = board_run job start kept.cycle in
    let cycles : run.clock.cycle ≡ kept.cycle = cycles_are job.board job.store start.env start.pair.board kept.cycle in
    let taken : run.clock.taken ≡ kept.steps.taken =
    inputs_are job.board job.store start.env start.pair.board kept.cycle
    ∙ ap inputs_in kept.events
    ∙ sym (steps_take job.machine (addresses_of job)
    (at_cycle job start) start.env start.pair.machine k kept.steps kept.described) in
    let line : slice_index_or
    (drop run.clock.cycle start.env.line) 0 false ≡ slice_index_or start.env.line kept.cycle false =
    line_left start.env run.clock.cycle ∙ ap (λ c. slice_index_or start.env.line c false) cycles in
    ap (λ request. step_of job.machine kept.steps.state request (drop run.clock.taken start.env.inputs) 0) line
    ∙ ap (λ n. step_of job.machine kept.steps.state (slice_index_or start.env.line kept.cycle false)
    (drop n start.env.inputs) 0) taken
    ∙ sym (steps_take_from_first job.machine kept.steps.state
    (slice_index_or start.env.line kept.cycle false) start.env.inputs kept.steps.taken)

-- the bounds up to boundary k + 1: those up to k, and that of the last segment
bounded : (job : Job) (start : Start) (k : ℕ) (kept : IsKept job start k) (n : ℕ)
    → IsBoundaryOf job start (k + 1) (kept.cycle + n)
    → n ≤ kept.reached.bound → (j c d : ℕ) (from : Boundary) → j < k + 1 → IsBoundaryOf job start j c
    → IsBoundaryOf job start (j + 1) d
    → boundary_at job (at_cycle job start c) ≡ Some from → d ≤ c + from.bound
bounded job start k kept n comes within j c d from below here later there = elim (cases_lt j k) [
  | inl before ↦ kept.bounds j c d from before here later there
  | inr past ↦ (let last : j ≡ k = omega arith in
      let begin : c ≡ kept.cycle = boundary_once (addresses_of job) (at_cycle job start) k c kept.cycle
      (subst (λ x. IsBoundaryOf job start x c) last here) kept.comes in
      let end : d ≡ kept.cycle + n = boundary_once (addresses_of job) (at_cycle job start) (k + 1) d (kept.cycle + n)
      (subst (λ x. IsBoundaryOf job start (x + 1) d) last later) comes in
      let same : Some from ≡ Some kept.reached = sym there ∙ ap (λ x. boundary_at job (at_cycle job start x)) begin
      ∙ kept.there in
      let one : from ≡ kept.reached = cc in
      let bound : from.bound ≡ kept.reached.bound = ap (λ (b : Boundary). b.bound) one in
      omega arith)
]

kept_next : (job : Job) (start : Start) (k : ℕ) (kept : IsKept job start k) → IsSame job (start_at job start k kept)
    → IsKept job start (k + 1)
kept_next job start k kept same =
    let next = start_at job start k kept in
    let ran = segment job next same.run same.segment in
    let n = ran.cycles in
    let on = goes_on job start k kept n in
    let comes : IsBoundaryOf job start (k + 1) (kept.cycle + n) =
    IsBoundary.next k kept.cycle (kept.cycle + n) kept.comes
    (next_on (addresses_of job) (at_cycle job start) (at_cycle job next) kept.cycle n
    (λ m. sym (ap (λ (r : BoardRun). r.state.at) (goes_on job start k kept m))) ran.next) in
    let state : same.run.state ≡ (board_run job start (kept.cycle + n)).state =
    ap (λ (r : BoardRun). r.state) ran.is ∙ sym (ap (λ (r : BoardRun). r.state) on) in
    let step = next_step job start k kept in
    record {
      cycle = kept.cycle + n;
      steps = with_step job.machine start.env kept.cycle kept.steps;
      reached = same.reached;
      comes = comes;
      bounds = bounded job start k kept n comes ran.within;
      described = IsDescribedRun.steps k kept.cycle kept.steps kept.described kept.comes;
      there = ap (λ s. boundary_at job s.at) (sym state) ∙ same.there;
      related = subst (λ s. InRelation job same.reached (pair_of (board_run job start (kept.cycle + n)).state s))
          (ap (λ (s : Stepped). s.state) step)
          (subst (λ s. InRelation job same.reached (pair_of s (first_step job next).state)) state same.related);
      events = ap (λ (r : BoardRun). r.events) on
          ∙ ap₂ (λ xs ys. xs ++ ys) kept.events (ap (λ (r : BoardRun). r.events) (sym ran.is) ∙ same.events
          ∙ ap (λ (s : Stepped). s.events) step);
    }

-- where no start differs, none shows a difference
shows_nothing : (job : Job) → NoneDiffers job → (start : Start) → IsStart job start → difference_of job start ≡ None
shows_nothing job none start begins =
    never_some (difference_of job start) (λ difference shows. none start difference
    (record { begins = begins; shows = shows }))

pub kept_each : (job : Job) → IsJob job → NoneDiffers job → (start : Start) → IsStart job start → (k : ℕ)
    → IsKept job start k
kept_each job is none start begins zero = kept_first job start is begins
kept_each job is none start begins (suc k) =
    let kept = kept_each job is none start begins k in
    let there = begins_there job start k kept begins in
    let next = start_at job start k kept in
    subst (IsKept job start) (add-one k)
    (kept_next job start k kept (same_where_none job next is there (shows_nothing job none next there)))

-- ---- and from what is certified back

same_where_kept : (job : Job) (start : Start) → IsJob job → IsStart job start → IsKept job start 1 → IsSame job start
same_where_kept job start is begins kept =
    let next = first_next (addresses_of job) (at_cycle job start) kept.cycle kept.comes in
    let within : kept.cycle ≤ start.boundary.bound =
    omega (
      arith,
      kept.bounds 0 0 kept.cycle start.boundary (omega arith) IsBoundary.first kept.comes
          (first_there job start is begins),
    ) in
    let step : kept.steps ≡ with_step job.machine start.env 0 (before_steps start.pair.machine) =
    one_step job.machine (addresses_of job)
    (at_cycle job start) start.env start.pair.machine kept.steps kept.described in
    record {
      run = board_run job start kept.cycle;
      reached = kept.reached;
      segment = segment_is job start kept.cycle next within;
      there = kept.there;
      related = subst (λ s. InRelation job kept.reached (pair_of (board_run job start kept.cycle).state s))
          (ap (λ (s : Stepped). s.state) step) kept.related;
      events = kept.events ∙ ap (λ (s : Stepped). s.events) step;
    }

no_difference : (job : Job) → IsJob job → Certified job → NoneDiffers job
no_difference job is certified start difference differs =
    let shown = differs.shows in
    let none = none_where_same job start
    (same_where_kept job start is differs.begins (certified start differs.begins 1)) in
    cc

pub certified_where_none_differs : CertifiedWhereNoneDiffers
certified_where_none_differs job is = (no_difference job is, kept_each job is)

-- ---- the start of the next segment

pub starts_follow : StartsFollow
starts_follow job start run reached is begins none ends there =
    let same = same_where_none job start is begins none in
    let step = first_step job start in
    let runs : same.run ≡ run = one_some same.run run (sym same.segment ∙ ends) in
    let found : boundary_at job run.state.at ≡ Some same.reached =
    subst (λ (r : BoardRun). boundary_at job r.state.at ≡ Some same.reached) runs same.there in
    let boundaries : same.reached ≡ reached = one_some same.reached reached (sym found ∙ there) in
    let related : InRelation job same.reached (pair_of run.state step.state) =
    subst (λ (r : BoardRun). InRelation job same.reached (pair_of r.state step.state)) runs same.related in
    record {
      boundary = is_there job run.state.at reached there;
      related = subst (λ (b : Boundary). InRelation job b (pair_of run.state step.state)) boundaries related;
      env = rests_are_environments job.board start.env run.clock begins.env;
    }
