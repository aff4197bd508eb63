use Rattle.std.proofs.Common.{ap, arith, subst, sym, ◌∙◌}
use Rattle.mw_symmem.specs.Memory.{Memory}
use Rattle.mw_rel.specs.Free.{numbered}
use Rattle.mw_rel.specs.Views.{job_of}
use Rattle.mw_course.specs.Boundaries.{IsSpace}
use Rattle.mw_course.proofs.Boundaries.{elements_first}
use Rattle.mw_course.proofs.OwnTerms.{with_own_last}
use Rattle.mw_course.proofs.elements.own_terms.Goals as goal

pub returns-clause-elements : goal.returns-clause-elements
returns-clause-elements c =
    let job = job_of c.args.job.now in
    let inv = c.loop-number.invariant in
    let told = c.args.space.now.terms in
    let old = c.args.space.now.words in
    let m = c.loop-number.space.memory in
    let space = subst (λ ws. IsSpace job told ws m) c.requires.words
    (subst (λ memory. IsSpace job told old memory) (sym inv.memory) c.requires.space) in
    elements_first job told _ _ m _ c.loop-number.number space inv.later inv.of inv.below
    (omega (arith, c.element_count-number-end.ensures.exact)) inv.count inv.so_far
    (ap (λ (x : Memory). x.reads) inv.memory ∙ c.requires.reads)

pub returns-clause-listed : goal.returns-clause-listed
returns-clause-listed c =
    let job = job_of c.args.job.now in
    c.loop-number.invariant.listed
    ∙ with_own_last (numbered job c.args.boundary) job.relation.shape.widths c.loop-number.number _
    (omega (arith, c.element_count-number-end.ensures.exact))
