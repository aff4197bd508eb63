use Rattle.std.proofs.Common.{◌≡◌, ℕ, List, ap, ◌∙◌, arith}
use Rattle.mw_rel.specs.Begin.{Begin}
use Rattle.mw_rel.specs.Completed.{free_value}
use Rattle.mw_rel.specs.Free.{is_free}
use Rattle.mw_rel.specs.Seen.{boundary_of}
use Rattle.mw_rel.specs.Views.{job_of}
use Rattle.mw_rel.proofs.Chosen.{free_words}
use Rattle.mw_rel.proofs.Elements.{widths_few}
use Rattle.mw_rel.proofs.completion.place_given.Goals as goal

pub place_free-requires-clause-few : goal.place_free-requires-clause-few
place_free-requires-clause-few c =
    omega (arith, c.requires.size, widths_few (job_of c.args.job.now) c.args.job.now.is_job)

pub returns-clause-placed : goal.returns-clause-placed
returns-clause-placed c =
    let given : c.as_slice.result.now ≡ c.args.begin.now.values =
    c.as_slice.ensures.value ∙ ap (λ (b : Begin). b.values) c.begin.view_is in
    λ e below. c.place_free.ensures.placed e (omega (arith, c.place_free.ensures.size))
    ∙ ap (λ (values : List ℕ). free_value (is_free (boundary_of c.args.at.now)) values e) given

pub returns-clause-words : goal.returns-clause-words
returns-clause-words c =
    let given : c.as_slice.result.now ≡ c.args.begin.now.values =
    c.as_slice.ensures.value ∙ ap (λ (b : Begin). b.values) c.begin.view_is in
    free_words (job_of c.args.job.now) (boundary_of c.args.at.now)
    c.args.begin.now c.place_free.new.places c.requires.begins (c.place_free.ensures.size ∙ c.requires.size)
    (λ e below. c.place_free.ensures.placed e (omega (arith, c.requires.size))
    ∙ ap (λ (values : List ℕ). free_value (is_free (boundary_of c.args.at.now)) values e) given)
