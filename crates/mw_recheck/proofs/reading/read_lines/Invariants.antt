use Rattle.std.proofs.Common.{◌≡◌, drop}
use Rattle.mw_base.specs.Steps.{steps}
use Rattle.mw_recheck.specs.LogText.{all_read, read_on}
use Rattle.mw_recheck.proofs.reading.read_lines.Given as goal

abbrev pub invariant-loop-line : goal.invariant-loop-line
invariant-loop-line l =
    steps (read_on l.boundaries l.text) l.reading (drop l.line-index l.lines) ≡ all_read l.boundaries l.text l.lines
