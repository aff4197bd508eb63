use Rattle.std.proofs.Common.{slice_index_or}
use Rattle.mw_rel.specs.Views.{job_of}
use Rattle.mw_sim.proofs.NumberedLines.{numbered_more}
use Rattle.mw_top.specs.Commands.Bounds.{no_range, range_text}
use Rattle.mw_top.proofs.commands.bounds.append_ranges.Goals as goal

pub append_range-requires-clause-is : goal.append_range-requires-clause-is
append_range-requires-clause-is c = c.requires.are c.loop-number.number _ c.range_at.ensures.there

pub loop-number-preserved : goal.loop-number-preserved
loop-number-preserved c =
    numbered_more
    (λ number. range_text (job_of c.args.job.now) number (slice_index_or c.args.ranges.now number no_range))
    c.loop-number.number _ _ _ c.loop-number.invariant
    (rw c.range_at.ensures.exact at c.in_ok-append_range.ensures)
