use Rattle.std.proofs.Common.{length, rules, sym}
use Rattle.mw_rel.specs.Views.{job_of}
use Rattle.mw_pal.specs.Fits.{is_free_counter}
use Rattle.mw_pal.proofs.Counters.{none_passes, one_passes}
use Rattle.mw_pal.proofs.fits.has_free_counter.Goals as goal

pub returns-then-is_free_counter-clause-exact : goal.returns-then-is_free_counter-clause-exact
returns-then-is_free_counter-clause-exact c =
    let job = job_of c.args.job.now in
    sym (one_passes (is_free_counter job) (length job.relation.shape.widths) c.loop-number.number (search rules)
    (sym c.if-is_free_counter.ensures))

pub returns-clause-exact : goal.returns-clause-exact
returns-clause-exact c =
    let job = job_of c.args.job.now in
    sym (none_passes (is_free_counter job) (length job.relation.shape.widths) (λ e below. search rules))
