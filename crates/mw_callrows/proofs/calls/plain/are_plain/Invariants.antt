use Rattle.std.proofs.Common.{◌≤◌, ◌+◌, All, drop}
use Rattle.mw_rel.specs.Lines.{reads_of}
use Rattle.mw_rel.specs.Relation.{IsFormedLine}
use Rattle.mw_rel.specs.Seen.{lines_of}
use Rattle.mw_callrows.proofs.calls.plain.are_plain.Given as goal

abbrev pub invariant-loop-line : goal.invariant-loop-line
invariant-loop-line l = record {
  formed : All (IsFormedLine l.shape) (lines_of (drop l.line-index l.lines))
      → All (IsFormedLine l.shape) (lines_of l.lines);
  few : reads_of (lines_of l.lines) ≤ reads_of (lines_of (drop l.line-index l.lines)) + l.line-index;
}
