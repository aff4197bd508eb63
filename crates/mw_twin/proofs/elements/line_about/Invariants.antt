use Rattle.std.proofs.Common.{◌≡◌, drop}
use Rattle.mw_revise.specs.Elements.{line_about}
use Rattle.mw_twin.proofs.elements.line_about.Given as goal

abbrev pub invariant-loop-line : goal.invariant-loop-line
invariant-loop-line l = record {
  left : line_about (drop l.line-index l.lines) l.number ≡ line_about l.lines l.number;
}
