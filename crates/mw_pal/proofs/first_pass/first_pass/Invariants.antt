use Rattle.std.proofs.Common.{◌≡◌, drop}
use Rattle.mw_pal.specs.FirstPass.{at_first, first_pass}
use Rattle.mw_pal.specs.Views.{known_seen}
use Rattle.mw_pal.proofs.first_pass.first_pass.Given as goal

abbrev pub invariant-loop-line : goal.invariant-loop-line
invariant-loop-line l =
    first_pass l.text (known_seen l.known) (drop l.line-index l.lines)
    ≡ first_pass l.text at_first l.lines
