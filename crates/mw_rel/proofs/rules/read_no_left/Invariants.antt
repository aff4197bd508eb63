use Rattle.std.proofs.Common.{◌≡◌, drop}
use Rattle.std.specs.List.{list_all}
use Rattle.mw_rel.specs.Rules.{reads_no_left}
use Rattle.mw_rel.specs.Seen.{lines_of}
use Rattle.mw_rel.proofs.rules.read_no_left.Given as goal

abbrev pub invariant-loop-line : goal.invariant-loop-line
invariant-loop-line l =
    list_all (reads_no_left (lines_of l.lefts)) (lines_of (drop l.line-index l.lines))
    ≡ list_all (reads_no_left (lines_of l.lefts)) (lines_of l.lines)
