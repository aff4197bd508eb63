-- A start differs at a step exactly where it does without its waits.
use Rattle.std.proofs.Common.{◌≡◌, ℕ, Option, Some, None, option_map, refl, sym, ap, ap₂, ◌∙◌, subst}
use Rattle.mw_macro.specs.DescribedStep.{Stepped}
use Rattle.mw_cycle.specs.SteadyRun.{BoardRun as SteadyRun}
use Rattle.mw_rel.specs.Certified.{boundary_at}
use Rattle.mw_rel.specs.SteadyDiffers.{Differs as SteadyDiffers, DiffersAt as SteadyDiffersAt}
use Rattle.mw_rel.specs.SteadyDiffers.{difference_of as steady_difference_of, segment_of as steady_segment_of}
use Rattle.mw_rel.specs.SteadyDiffers.{start_after as steady_start_after}
use Rattle.mw_rel.specs.Job.{Job}
use Rattle.mw_rel.specs.SteadyLaws.{NoneDiffers as SteadyNoneDiffers}
use Rattle.mw_rel.specs.InRelation.{InRelation, pair_of}
use Rattle.mw_rel.specs.Relation.{Boundary}
use Rattle.mw_rel.specs.SteadyStart.{Start as SteadyStart, IsStart as IsSteadyStart}
use Rattle.mw_rel.specs.declared.difference.Difference.{Difference}
use Rattle.mw_rel.proofs.Law as relations
use Rattle.mw_rel.specs.Certified.{board_run}
use Rattle.mw_rel.specs.Differs.{DiffersAt, segment_of, start_after}
use Rattle.mw_cycle.specs.Environment.{IsEnvironment}
use Rattle.mw_cycle.specs.Run.{BoardRun}
use Rattle.mw_rel.specs.Start.{Start, IsStart}
use Rattle.mw_ready.specs.Thinned.{always_ready, thinned_start}
use Rattle.mw_cycle.specs.Thinned.{but_clocks}
use Rattle.mw_ready.specs.StartLaws.{CertifiedWhereNoneDiffers, NoneDiffers, StartsFollow, StepsDifferAsThinned}
use Rattle.mw_ready.proofs.Certifying.{certified_alike}
use Rattle.mw_ready.proofs.Differences.{differences_are_thinned, segment_ran, segment_thinned}
use Rattle.mw_ready.proofs.Differences.{starts_differ_as_thinned, step_thinned}
use Rattle.mw_ready.proofs.Begins.{starts_without_waits_are_starts, thinned_are_starts}
use Rattle.mw_cycle.proofs.Lists.{rests_are_environments}
use Rattle.mw_cycle.proofs.Rests.{rests_are_thinned}

-- ---- the start of the next segment

-- the start after n cycles
after_cycles : (job : Job) (start : Start) (boundary : Boundary) (n : ℕ)
    → thinned_start job (start_after job start (board_run job start n) boundary)
    ≡ steady_start_after job (thinned_start job start) (but_clocks (board_run job start n)) boundary
after_cycles job start boundary n =
    rw (rests_are_thinned job.board job.store start.env start.pair.board n, step_thinned job start) refl

-- the start of the next segment, without its waits
after_thinned : (job : Job) (start : Start) (run : BoardRun) (boundary : Boundary)
    → segment_of job start ≡ Some run → thinned_start job (start_after job start run boundary)
    ≡ steady_start_after job (thinned_start job start) (but_clocks run) boundary
after_thinned job start run boundary segment =
    let made = segment_ran job start run segment in
    subst (λ (r : BoardRun). thinned_start job (start_after job start r boundary)
    ≡ steady_start_after job (thinned_start job start) (but_clocks r) boundary) made.is
    (after_cycles job start boundary made.cycles)

-- where a start shows no difference, that of the next segment is one of the job, since it is so without the waits
pub starts_follow : StartsFollow
starts_follow job start run reached is begins none ends there =
    let thin = thinned_start job start in
    let after = relations.starts_follow job thin (but_clocks run) reached is (thinned_are_starts job start begins)
    (sym (differences_are_thinned job start) ∙ none)
    (sym (segment_thinned job start) ∙ ap (option_map but_clocks) ends) there in
    record {
      boundary = after.boundary;
      related = subst (λ (step : Stepped). InRelation job reached (pair_of run.state step.state))
          (sym (step_thinned job start)) after.related;
      env = rests_are_environments job.board start.env run.clock begins.env;
    }

-- ---- with waits, and without

steps_without : (job : Job) (start : Start) (step : ℕ) (difference : Difference)
    → DiffersAt job start step difference → SteadyDiffersAt job (thinned_start job start) step difference
steps_without job start step difference (DiffersAt.here one other differs) =
    SteadyDiffersAt.here (thinned_start job start) difference
    ((starts_differ_as_thinned job start difference differs.begins).0 differs)
steps_without job start step difference
    (DiffersAt.later one run boundary before other is none segment there rest) =
    SteadyDiffersAt.later (thinned_start job start) (but_clocks run) boundary before difference
    (thinned_are_starts job start is) (sym (differences_are_thinned job start) ∙ none)
    (sym (segment_thinned job start) ∙ ap (option_map but_clocks) segment) there
    (subst (λ start. SteadyDiffersAt job start before difference) (after_thinned job start run boundary segment)
    (steps_without job (start_after job start run boundary) before difference rest))

-- a start's segment that is, without its clocks, a run
pub record IsSegment (job : Job) (start : Start) (run : SteadyRun) : Type 0 where
  pub ran : BoardRun
  pub segment : segment_of job start ≡ Some ran
  pub same : but_clocks ran ≡ run

pub segment_with : (job : Job) (start : Start) (run : SteadyRun) (segment : Option BoardRun)
    → segment_of job start ≡ segment → option_map but_clocks segment ≡ Some run → IsSegment job start run
segment_with job start run None is same = cc
segment_with job start run (Some ran) is same =
    record { ran = ran; segment = is; same = let one : but_clocks ran ≡ run = cc in one }

-- a start whose lists are an environment's is one of the job where it is without its waits
start_with : (job : Job) (start : Start) (thin : SteadyStart) → thin ≡ thinned_start job start → IsSteadyStart job thin
    → IsEnvironment job.board start.env → IsStart job start
start_with job start thin same is env =
    let begins = subst (IsSteadyStart job) same is in
    record { boundary = begins.boundary; related = begins.related; env = env }

steps_with : (job : Job) (start : Start) (thin : SteadyStart) (step : ℕ) (difference : Difference)
    → thin ≡ thinned_start job start → IsEnvironment job.board start.env
    → SteadyDiffersAt job thin step difference → DiffersAt job start step difference
steps_with job start thin step difference same env (SteadyDiffersAt.here one other differs) =
    DiffersAt.here start difference
    ((starts_differ_as_thinned job start difference (start_with job start thin same differs.begins env)).1
    (subst (λ thin. SteadyDiffers job thin difference) same differs))
steps_with job start thin step difference same env
    (SteadyDiffersAt.later one run boundary before other is none segment there rest) =
    let own = segment_with job start run (segment_of job start) refl
    (segment_thinned job start ∙ ap (steady_segment_of job) (sym same) ∙ segment) in
    let next : steady_start_after job thin run boundary
    ≡ thinned_start job (start_after job start own.ran boundary) =
    ap₂ (λ thin run. steady_start_after job thin run boundary) same (sym own.same)
    ∙ sym (after_thinned job start own.ran boundary own.segment) in
    DiffersAt.later start own.ran boundary before difference
    (start_with job start thin same is env)
    (differences_are_thinned job start ∙ ap (steady_difference_of job) (sym same) ∙ none)
    own.segment (ap (λ (r : SteadyRun). boundary_at job r.state.at) own.same ∙ there)
    (steps_with job (start_after job start own.ran boundary) (steady_start_after job thin run boundary) before difference
    next (rests_are_environments job.board start.env own.ran.clock env) rest)

pub steps_differ_as_thinned : StepsDifferAsThinned
steps_differ_as_thinned job start step difference is = (
  steps_without job start step difference,
  steps_with job start (thinned_start job start) step difference refl is.env,
)

-- ---- jobs

none_with : (job : Job) → SteadyNoneDiffers job → NoneDiffers job
none_with job none start difference differs =
    none (thinned_start job start) difference
    ((starts_differ_as_thinned job start difference differs.begins).0 differs)

pub none_without : (job : Job) → NoneDiffers job → SteadyNoneDiffers job
none_without job none start difference differs =
    let one = starts_without_waits_are_starts job start differs.begins in
    none (always_ready start) difference
    ((starts_differ_as_thinned job (always_ready start) difference one.begins).1
    (subst (λ thin. SteadyDiffers job thin difference) (sym one.itself) differs))

pub certified_where_none_differs : CertifiedWhereNoneDiffers
certified_where_none_differs job is =
    let alike = certified_alike job in
    let law = relations.certified_where_none_differs job is in (
      λ certified. none_with job (law.0 (alike.0 certified)),
      λ none. alike.1 (law.1 (none_without job none)),
    )
