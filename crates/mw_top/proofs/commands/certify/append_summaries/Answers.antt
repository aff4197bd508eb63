use Rattle.std.proofs.Common.{slice_index_or}
use Rattle.mw_rel.specs.Views.{job_of}
use Rattle.mw_top.specs.Commands.Certify.{no_summary, summary_line}
use Rattle.mw_sim.proofs.NumberedLines.{numbered_more}
use Rattle.mw_top.proofs.commands.certify.append_summaries.Goals as goal

pub loop-number-preserved : goal.loop-number-preserved
loop-number-preserved c =
    numbered_more
    (λ number. summary_line (job_of c.args.job.now) number (slice_index_or c.args.summaries.now number no_summary))
    c.loop-number.number _ _ _ c.loop-number.invariant c.in_ok-append_summary.ensures
