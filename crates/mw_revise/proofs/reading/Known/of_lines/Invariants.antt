use Rattle.std.proofs.Common.{◌≡◌, drop}
use Rattle.mw_base.specs.Steps.{steps}
use Rattle.mw_revise.specs.KeepText.{at_first, known_after}
use Rattle.mw_revise.specs.Kept.{IsKnown}
use Rattle.mw_revise.proofs.reading.Known.of_lines.Given as goal

abbrev pub invariant-loop-line : goal.invariant-loop-line
invariant-loop-line l = record {
  so_far : steps (known_after l.programs l.text) l.known (drop l.line-index l.lines)
      ≡ steps (known_after l.programs l.text) at_first l.lines;
  kept : IsKnown l.programs.board l.known;
}
