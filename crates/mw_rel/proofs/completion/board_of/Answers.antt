use Rattle.std.proofs.Common.{◌^◌, ap, sym, ◌∙◌, arith}
use Rattle.mw_rel.specs.Views.{job_of}
use Rattle.mw_rel.proofs.Elements.{widths_count}
use Rattle.mw_rel.proofs.Standing.{board_address, word_fits, standing_fits}
use Rattle.mw_rel.proofs.completion.board_of.Goals as goal

pub set_elements-requires-clause-count : goal.set_elements-requires-clause-count
set_elements-requires-clause-count c =
    omega (arith, c.requires.words.count, widths_count (job_of c.args.job.now) c.args.job.now.is_job)

pub set_elements-requires-clause-words : goal.set_elements-requires-clause-words
set_elements-requires-clause-words c =
    word_fits (job_of c.args.job.now) c.args.values.now c.args.job.now.is_job c.requires.words

pub stand_at-requires-clause-size : goal.stand_at-requires-clause-size
stand_at-requires-clause-size c =
    c.requires.image.size ∙ ap (λ n. 2 ^ n) (board_address (job_of c.args.job.now) c.args.job.now.is_job)
    ∙ sym c.set_elements.ensures.fits.size

pub returns-clause-fits : goal.returns-clause-fits
returns-clause-fits c =
    rw c.stand_at.ensures.exact
    (standing_fits (job_of c.args.job.now)
    c.set_elements.new.state c.args.at.now.address c.args.at.now.sp c.args.memory.now
    c.args.job.now.is_job c.set_elements.ensures.fits c.requires.at c.requires.pointer c.requires.image)
