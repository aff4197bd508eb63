use Rattle.std.proofs.Common.{◌≡◌, take}
use Rattle.mw_base.specs.TokenLines.{tokens_in}
use Rattle.mw_base.proofs.line.tokens_in.Given as goal

abbrev pub invariant-loop-line : goal.invariant-loop-line
invariant-loop-line l = l.tokens.items ≡ tokens_in (take l.line-index l.lines)
