use Rattle.std.proofs.Common.{◌≡◌, drop}
use Rattle.mw_rel.specs.Completed.{value_by}
use Rattle.mw_rel.specs.Seen.{lines_of}
use Rattle.mw_rel.specs.Views.{job_of}
use Rattle.mw_rel.proofs.completion.value_by.Given as goal

abbrev pub invariant-loop-line : goal.invariant-loop-line
invariant-loop-line l =
    value_by (job_of l.job).relation.shape l.values l.memory (lines_of (drop l.line-index l.lines)) l.number
    ≡ value_by (job_of l.job).relation.shape l.values l.memory (lines_of l.lines) l.number
