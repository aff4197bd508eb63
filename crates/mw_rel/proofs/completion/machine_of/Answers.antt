use Rattle.std.proofs.Common.{◌^◌, drop, length, ap, sym, ◌∙◌, arith}
use Rattle.mw_rel.specs.Views.{job_of}
use Rattle.mw_rel.proofs.Elements.{widths_count}
use Rattle.mw_rel.proofs.Standing.{machine_address, behind_count, behind_fits}
use Rattle.mw_rel.proofs.completion.machine_of.Goals as goal

pub behind-registers-requires : goal.behind-registers-requires
behind-registers-requires c =
    omega
    (arith, c.element_count.ensures, c.requires.words.count, widths_count (job_of c.args.job.now) c.args.job.now.is_job)

pub fill-requires-clause-count : goal.fill-requires-clause-count
fill-requires-clause-count c =
    ap length (c.behind-registers.ensures ∙ ap (λ n. drop n c.args.values.now) c.element_count.ensures)
    ∙ behind_count (job_of c.args.job.now) c.args.values.now c.args.job.now.is_job c.requires.words
    ∙ sym c.in_ok-state.ensures.fits.count

pub fill-requires-clause-size : goal.fill-requires-clause-size
fill-requires-clause-size c =
    c.requires.image.size ∙ ap (λ n. 2 ^ n) (machine_address (job_of c.args.job.now) c.args.job.now.is_job)
    ∙ sym c.in_ok-state.ensures.fits.size

pub returns-clause-fits : goal.returns-clause-fits
returns-clause-fits c =
    rw (c.fill.ensures, c.behind-registers.ensures, c.element_count.ensures)
    (behind_fits (job_of c.args.job.now) c.args.values.now c.args.memory.now c.args.job.now.is_job c.requires.words
    c.requires.image)
