-- What steps from a start show is one thing.
use Rattle.std.proofs.Common.{◌≡◌, ℕ, ◌+◌, refl, sym, ap, ap₂, ◌∙◌}
use Rattle.std.proofs.lemmas.Option.{none-some, same_Some}
use Rattle.mw_cycle.specs.Run.{BoardRun}
use Rattle.mw_rel.specs.declared.difference.Difference.{Difference}
use Rattle.mw_rel.specs.Certified.{boundary_at}
use Rattle.mw_rel.specs.Differs.{DiffersAt, difference_of, segment_of, start_after}
use Rattle.mw_rel.specs.Job.{Job}
use Rattle.mw_rel.specs.Relation.{Boundary}
use Rattle.mw_rel.specs.Start.{Start}
use Rattle.mw_replay.proofs.Steps.{none_differs_before}
use Rattle.mw_check.specs.declared.comparison.Compared.{Compared}
use Rattle.mw_check.specs.declared.comparison.Compared.TheVariants.{Same, Differs}
use Rattle.mw_check.specs.Comparison.{Shows}

record AreOne (s t : ℕ) (d e : Difference) : Type 0 where
  step : s ≡ t
  difference : d ≡ e

-- a start differs at one step at most, and there in one way
differs_once : (job : Job) (start other : Start) (s t : ℕ) (d e : Difference) → start ≡ other → DiffersAt job start s d
    → DiffersAt job other t e → AreOne s t d e
differs_once job start other s t d e same (DiffersAt.here one first differs) (DiffersAt.here two second differs2) =
    record {
      step = refl;
      difference = same_Some first second (sym differs.shows ∙ ap (difference_of job) same ∙ differs2.shows);
    }
differs_once job start other s t d e same (DiffersAt.here one first differs)
    (DiffersAt.later two run boundary step second begins none segment there rest) =
    absurd (none-some first (sym none ∙ ap (difference_of job) (sym same) ∙ differs.shows))
differs_once job start other s t d e same (DiffersAt.later one run boundary step first begins none segment there rest)
    (DiffersAt.here two second differs) =
    absurd (none-some second (sym none ∙ ap (difference_of job) same ∙ differs.shows))
differs_once job start other s t d e same (DiffersAt.later one run boundary step first begins none segment there rest)
    (DiffersAt.later two run2 boundary2 step2 second begins2 none2 segment2 there2 rest2) =
    let runs : run ≡ run2 = same_Some run run2 (sym segment ∙ ap (segment_of job) same ∙ segment2) in
    let reached : boundary ≡ boundary2 = same_Some boundary boundary2
    (sym there ∙ ap (λ (r : BoardRun). boundary_at job r.state.at) runs ∙ there2) in
    let next = ap (λ (s : Start). start_after job s run boundary) same
    ∙ ap (λ (r : BoardRun). start_after job two r boundary) runs
    ∙ ap (λ (b : Boundary). start_after job two run2 b) reached in
    let later = differs_once job (start_after job one run boundary) (start_after job two run2 boundary2) step step2
    first second next rest rest2 in
    record { step = ap (λ (n : ℕ). n + 1) later.step; difference = later.difference }

-- so many steps from a start show one thing
pub shows_one : (job : Job) (start : Start) (steps : ℕ) (a b : Compared) → Shows job start steps a
    → Shows job start steps b
    → a ≡ b
shows_one job start steps Same Same same again = refl
shows_one job start steps Same (Differs step difference) same differs =
    absurd (none_differs_before job start same.0 steps step difference same.1 differs.0 differs.1)
shows_one job start steps (Differs step difference) Same differs same =
    absurd (none_differs_before job start same.0 steps step difference same.1 differs.0 differs.1)
shows_one job start steps (Differs s d) (Differs t e) first second =
    let one = differs_once job start start s t d e refl first.1 second.1 in
    ap₂ Differs one.step one.difference
