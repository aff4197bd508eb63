use Rattle.std.proofs.Common.{◌≡◌, drop, find, not, option_map}
use Rattle.mw_rel.specs.declared.difference.Difference.TheVariants as differences
use Rattle.mw_rel.specs.InRelation.{line_holds}
use Rattle.mw_rel.specs.Lines.{Line}
use Rattle.mw_rel.specs.Seen.{lines_of}
use Rattle.mw_rel.specs.Views.{job_of}
use Rattle.mw_rel.proofs.failing.first_to_fail.Given as goal

abbrev pub invariant-loop-line : goal.invariant-loop-line
invariant-loop-line l =
    option_map (λ (line : Line). differences.Element line.left)
    (find (λ (line : Line). not (line_holds (job_of l.job) l.pair line)) (lines_of (drop l.line-index l.lines)))
    ≡ option_map (λ (line : Line). differences.Element line.left)
    (find (λ (line : Line). not (line_holds (job_of l.job) l.pair line)) (lines_of l.lines))
