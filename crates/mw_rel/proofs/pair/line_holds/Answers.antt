use Rattle.std.proofs.Common.{◌≡◌, arith, rules}
use Rattle.mw_rel.specs.Views.{job_of}
use Rattle.mw_rel.proofs.Elements.{pair_words, pair_image}
use Rattle.mw_rel.proofs.pair.line_holds.Goals as goal

pub value-right-requires-clause-values_fit : goal.value-right-requires-clause-values_fit
value-right-requires-clause-values_fit c =
    rw (c.shape.ensures, c.requires.exact)
    (pair_words (job_of c.args.job.now) c.args.pair.now c.args.job.now.is_job c.requires.fit)

pub value-right-requires-clause-memory_fits : goal.value-right-requires-clause-memory_fits
value-right-requires-clause-memory_fits c =
    let image = pair_image (job_of c.args.job.now) c.args.pair.now c.args.job.now.is_job c.requires.fit in
    let same : c.deref.result.now ≡ c.args.pair.now.machine.memory = search rules in
    rw (c.shape.ensures, same) (λ reads. image)

pub bounds-values-line : goal.bounds-values-line
bounds-values-line c =
    let words = pair_words (job_of c.args.job.now) c.args.pair.now c.args.job.now.is_job c.requires.fit in
    rw c.requires.exact (omega (arith, words.count, c.requires.line_of.left))
