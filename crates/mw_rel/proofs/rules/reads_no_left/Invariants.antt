use Rattle.std.proofs.Common.{◌≡◌, drop}
use Rattle.mw_rel.specs.Rules.{reads_no_left}
use Rattle.mw_rel.specs.Seen.{line_of, lines_of}
use Rattle.mw_rel.proofs.rules.reads_no_left.Given as goal

abbrev pub invariant-loop-other : goal.invariant-loop-other
invariant-loop-other l =
    reads_no_left (lines_of (drop l.other-index l.lines)) (line_of l.line) ≡ reads_no_left (lines_of l.lines)
    (line_of l.line)
