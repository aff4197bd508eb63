use Rattle.std.proofs.Common.{◌≡◌, ◌++◌, slice_index_or}
use Rattle.std.specs.List.{flat_map, range_with_len}
use Rattle.mw_rel.specs.Views.{job_of}
use Rattle.mw_top.specs.Commands.Bounds.{no_range, range_text}
use Rattle.mw_top.proofs.commands.bounds.append_ranges.Given as goal

-- the texts of the boundaries before this one stand there
abbrev pub invariant-loop-number : goal.invariant-loop-number
invariant-loop-number l =
    l.report.items ≡ l.fn.report.items
    ++ flat_map (λ number. range_text (job_of l.job) number (slice_index_or l.ranges number no_range))
    (range_with_len 0 l.number)
