-- A job is certified over all environments exactly where it is over those without waits.
use Rattle.std.proofs.Common.{◌≡◌, ℕ, ◌+◌, List, Bool, sym, ap, ◌∙◌, subst}
use Rattle.std.proofs.Common.{false, slice_index_or}
use Rattle.mw_cycle.specs.Boundary.{IsBoundary}
use Rattle.mw_cycle.specs.SteadyEnvironment.{Environment as SteadyEnvironment}
use Rattle.mw_cycle.specs.SteadyRun.{BoardRun as SteadyRun}
use Rattle.mw_macro.specs.DescribedStep.{Stepped}
use Rattle.mw_macro.specs.Machine.{Description}
use Rattle.mw_macro.specs.State.{MachineState}
use Rattle.mw_rel.specs.Certified.{boundary_at}
use Rattle.mw_rel.specs.SteadyCertified.{Certified as SteadyCertified, IsBoundaryOf as IsSteadyBoundaryOf}
use Rattle.mw_rel.specs.SteadyCertified.{IsKept as IsSteadyKept}
use Rattle.mw_rel.specs.SteadyDescribedRun.{IsDescribedRun as IsSteadyDescribedRun}
use Rattle.mw_rel.specs.InRelation.{InRelation, pair_of}
use Rattle.mw_rel.specs.Job.{Job}
use Rattle.mw_rel.specs.Start.{addresses_of}
use Rattle.mw_rel.specs.Certified.{IsBoundaryOf, IsKept, Certified, at_cycle, line_at}
use Rattle.mw_rel.specs.DescribedRun.{IsDescribedRun, with_step}
use Rattle.mw_rel.specs.Start.{Start}
use Rattle.mw_ready.specs.Thinned.{always_ready, thinned_start}
use Rattle.mw_ready.specs.StartLaws.{CertifiedAlike}
use Rattle.mw_ready.proofs.Differences.{at_thinned, run_thinned}
use Rattle.mw_ready.proofs.Begins.{starts_without_waits_are_starts, thinned_are_starts}
use Rattle.mw_cycle.proofs.Thinning.{line_thinned}

-- ---- described runs whose requests are the same lines

described_on : (m : Description) (addresses : List ℕ) (at : ℕ → ℕ) (line : ℕ → Bool) (env : SteadyEnvironment)
    (start : MachineState) → ((n : ℕ) → line n ≡ slice_index_or env.line n false) → (k : ℕ) (steps : Stepped)
    → IsDescribedRun m addresses at line env.inputs start k steps
    → IsSteadyDescribedRun m addresses at env start k steps
described_on m addresses at line env start same k steps IsDescribedRun.begins = IsSteadyDescribedRun.begins
described_on m addresses at line env start same k steps (IsDescribedRun.steps i c before described comes) =
    subst (λ request. IsSteadyDescribedRun m addresses at env start (i + 1) (with_step m request env.inputs before))
    (sym (same c)) (IsSteadyDescribedRun.steps i c before
    (described_on m addresses at line env start same i before described) comes)

described_back : (m : Description) (addresses : List ℕ) (at : ℕ → ℕ) (line : ℕ → Bool) (env : SteadyEnvironment)
    (start : MachineState) → ((n : ℕ) → line n ≡ slice_index_or env.line n false) → (k : ℕ) (steps : Stepped)
    → IsSteadyDescribedRun m addresses at env start k steps
    → IsDescribedRun m addresses at line env.inputs start k steps
described_back m addresses at line env start same k steps IsSteadyDescribedRun.begins = IsDescribedRun.begins
described_back m addresses at line env start same k steps (IsSteadyDescribedRun.steps i c before described comes) =
    subst (λ request. IsDescribedRun m addresses at line env.inputs start (i + 1)
    (with_step m request env.inputs before))
    (same c) (IsDescribedRun.steps i c before
    (described_back m addresses at line env start same i before described) comes)

-- ---- boundaries of runs

-- boundary k of a start is kept where it is without its waits
kept_with : (job : Job) (start : Start) (k : ℕ) → IsSteadyKept job (thinned_start job start) k
    → IsKept job start k
kept_with job start k kept =
    let addresses = addresses_of job in
    let thin = thinned_start job start in
    let same = at_thinned job start in
    let run = run_thinned job start kept.cycle in
    let alike : (j c : ℕ) → IsBoundaryOf job start j c → IsSteadyBoundaryOf job thin j c =
    λ j c. subst (λ at. IsBoundary addresses at j c) same in
    record {
      cycle = kept.cycle;
      steps = kept.steps;
      reached = kept.reached;
      comes = subst (λ at. IsBoundary addresses at k kept.cycle) (sym same) kept.comes;
      bounds = λ j c d from before here later there. kept.bounds j c d from before (alike j c here)
          (alike (j + 1) d later) (ap (λ at. boundary_at job (at c)) (sym same) ∙ there);
      described = described_back job.machine addresses (at_cycle job start) (line_at job start) thin.env
          start.pair.machine (line_thinned job.board job.store start.env start.pair.board) k kept.steps
          (subst (λ at. IsSteadyDescribedRun job.machine addresses at thin.env start.pair.machine k kept.steps)
          (sym same)
          kept.described);
      there = ap (λ at. boundary_at job (at kept.cycle)) same ∙ kept.there;
      related = subst (λ (r : SteadyRun). InRelation job kept.reached (pair_of r.state kept.steps.state)) (sym run)
          kept.related;
      events = ap (λ (r : SteadyRun). r.events) run ∙ kept.events;
    }

-- and the other way round
kept_without : (job : Job) (start : Start) (k : ℕ) → IsKept job start k
    → IsSteadyKept job (thinned_start job start) k
kept_without job start k kept =
    let addresses = addresses_of job in
    let thin = thinned_start job start in
    let same = at_thinned job start in
    let run = run_thinned job start kept.cycle in
    let alike : (j c : ℕ) → IsSteadyBoundaryOf job thin j c → IsBoundaryOf job start j c =
    λ j c. subst (λ at. IsBoundary addresses at j c) (sym same) in
    record {
      cycle = kept.cycle;
      steps = kept.steps;
      reached = kept.reached;
      comes = subst (λ at. IsBoundary addresses at k kept.cycle) same kept.comes;
      bounds = λ j c d from before here later there. kept.bounds j c d from before (alike j c here)
          (alike (j + 1) d later) (ap (λ at. boundary_at job (at c)) same ∙ there);
      described =
          subst (λ at. IsSteadyDescribedRun job.machine addresses at thin.env start.pair.machine k kept.steps) same
          (described_on job.machine addresses (at_cycle job start) (line_at job start) thin.env
          start.pair.machine (line_thinned job.board job.store start.env start.pair.board) k kept.steps
          kept.described);
      there = ap (λ at. boundary_at job (at kept.cycle)) (sym same) ∙ kept.there;
      related = subst (λ (r : SteadyRun). InRelation job kept.reached (pair_of r.state kept.steps.state)) run
          kept.related;
      events = ap (λ (r : SteadyRun). r.events) (sym run) ∙ kept.events;
    }

-- ---- jobs

without_waits : (job : Job) → Certified job → SteadyCertified job
without_waits job certified start is k =
    let one = starts_without_waits_are_starts job start is in
    subst (λ thin. IsSteadyKept job thin k) one.itself
    (kept_without job (always_ready start) k (certified (always_ready start) one.begins k))

with_waits : (job : Job) → SteadyCertified job → Certified job
with_waits job certified start is k =
    kept_with job start k (certified (thinned_start job start) (thinned_are_starts job start is) k)

pub certified_alike : CertifiedAlike
certified_alike job = (without_waits job, with_waits job)
