use Rattle.std.proofs.Common.{◌≡◌, drop}
use Rattle.std.specs.List.{list_all}
use Rattle.mw_rel.specs.InRelation.{line_holds}
use Rattle.mw_rel.specs.Seen.{lines_of}
use Rattle.mw_rel.specs.Views.{job_of}
use Rattle.mw_rel.proofs.pair.lines_hold.Given as goal

abbrev pub invariant-loop-line : goal.invariant-loop-line
invariant-loop-line l =
    list_all (line_holds (job_of l.job) l.pair) (lines_of (drop l.line-index l.lines)) ≡ list_all
    (line_holds (job_of l.job) l.pair) (lines_of l.lines)
