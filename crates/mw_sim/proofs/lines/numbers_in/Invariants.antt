use Rattle.std.proofs.Common.{◌≡◌, drop}
use Rattle.mw_base.specs.Steps.{steps}
use Rattle.mw_sim.specs.Lines.{with_number, numbers_in}
use Rattle.mw_sim.proofs.lines.numbers_in.Given as goal

abbrev pub invariant-loop-token : goal.invariant-loop-token
invariant-loop-token l = steps (with_number l.line) l.numbers.items (drop l.token-index l.tokens)
    ≡ numbers_in l.line l.tokens
