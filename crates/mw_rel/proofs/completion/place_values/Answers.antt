use Rattle.std.proofs.Common.{◌≡◌, ℕ, List, ap, ap₂, ◌∙◌, arith}
use Rattle.mw_rel.specs.Begin.{Begin}
use Rattle.mw_rel.specs.Completed.{value_by}
use Rattle.mw_rel.specs.Lines.{Line}
use Rattle.mw_rel.specs.Seen.{lines_of, boundary_of}
use Rattle.mw_rel.specs.Views.{job_of}
use Rattle.mw_rel.proofs.Chosen.{chosen_values}
use Rattle.mw_rel.proofs.Completed.{all_hold}
use Rattle.mw_rel.proofs.completion.place_values.Goals as goal

pub returns-clause-lines : goal.returns-clause-lines
returns-clause-lines c =
    let s = (job_of c.args.job.now).relation.shape in
    let memory : c.as_slice-2.result.now ≡ c.args.begin.now.memory =
    c.as_slice-2.ensures.value ∙ ap (λ (b : Begin). b.memory) c.begin.view_is in
    all_hold s c.place_given.new.places c.args.begin.now.memory c.place_all.new.values (boundary_of c.args.at.now).lines
    c.place_given.ensures.words.count c.place_all.ensures.size
    (λ e below. c.place_all.ensures.each e below
    ∙ ap₂ (λ (m : List ℕ) (lines : List Line). value_by s c.place_given.new.places m lines e) memory
    (ap lines_of c.as_slice.ensures))
    c.requires.solved.lines c.requires.solved.once c.requires.solved.free

pub returns-clause-chosen : goal.returns-clause-chosen
returns-clause-chosen c =
    let s = (job_of c.args.job.now).relation.shape in
    let memory : c.as_slice-2.result.now ≡ c.args.begin.now.memory =
    c.as_slice-2.ensures.value ∙ ap (λ (b : Begin). b.memory) c.begin.view_is in
    chosen_values (job_of c.args.job.now) (boundary_of c.args.at.now) c.args.begin.now c.place_given.new.places
    c.place_all.new.values (c.place_all.ensures.size ∙ c.place_given.ensures.words.count)
    (λ e below. c.place_given.ensures.placed e (omega (arith, c.place_all.ensures.size)))
    (λ e below. c.place_all.ensures.each e below
    ∙ ap₂ (λ (m : List ℕ) (lines : List Line). value_by s c.place_given.new.places m lines e) memory
    (ap lines_of c.as_slice.ensures))
    c.requires.begins
