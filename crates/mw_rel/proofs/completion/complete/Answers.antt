use Rattle.std.proofs.Common.{◌≡◌, map, slice_index, ap, sym, subst, ◌∙◌}
use Rattle.std.specs.Prelude.{All}
use Rattle.mw_rel.specs.Begin.{Begin, free_elements}
use Rattle.mw_rel.specs.Completed.{HoldsIn}
use Rattle.mw_rel.specs.Free.{numbered}
use Rattle.mw_rel.specs.InRelation.{StandsAt}
use Rattle.mw_rel.specs.Relation.{Boundary}
use Rattle.mw_rel.specs.Rules.{IsSolved}
use Rattle.mw_rel.specs.Views.{job_of}
use Rattle.mw_rel.proofs.Chosen.{completed}
use Rattle.mw_rel.proofs.Relations.{solved_at}
use Rattle.mw_rel.proofs.completion.complete.Goals as goal

pub place_values-requires-clause-solved : goal.place_values-requires-clause-solved
place_values-requires-clause-solved c =
    let job = job_of c.args.job.now in
    subst (IsSolved job.relation.shape) (sym c.boundary-at.ensures)
    (solved_at job c.args.boundary c.args.job.now.is_job c.requires.there)

pub returns : goal.returns
returns c =
    let job = job_of c.args.job.now in
    let values = c.place_values.new.values in
    let here = c.boundary-at.ensures in
    let memory : c.as_slice.result.now ≡ c.args.begin.now.memory =
    c.as_slice.ensures.value ∙ ap (λ (b : Begin). b.memory) c.begin.view_is in
    completed job (numbered job c.args.boundary) c.args.begin.now values c.in_ok-pair.pair c.in_ok-pair.ensures.fit
    (subst (λ (b : Boundary). StandsAt b c.in_ok-pair.pair) here c.in_ok-pair.ensures.stands)
    c.in_ok-pair.ensures.values (c.in_ok-pair.ensures.memory ∙ memory)
    (subst (λ (b : Boundary). All (HoldsIn job.relation.shape values c.args.begin.now.memory) b.lines) here
    c.place_values.ensures.lines)
    (subst (λ (b : Boundary). map (slice_index values) (free_elements job b) ≡ c.args.begin.now.values) here
    c.place_values.ensures.chosen)
