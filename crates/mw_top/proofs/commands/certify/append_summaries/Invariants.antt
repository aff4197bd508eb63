use Rattle.std.proofs.Common.{◌≡◌, ◌++◌, slice_index_or}
use Rattle.std.specs.List.{flat_map, range_with_len}
use Rattle.mw_rel.specs.Views.{job_of}
use Rattle.mw_top.specs.Commands.Certify.{no_summary, summary_line}
use Rattle.mw_top.proofs.commands.certify.append_summaries.Given as goal

abbrev pub invariant-loop-number : goal.invariant-loop-number
invariant-loop-number l =
    l.report.items ≡ l.fn.report.items
    ++ flat_map (λ number. summary_line (job_of l.job) number (slice_index_or l.summaries number no_summary))
    (range_with_len 0 l.number)
