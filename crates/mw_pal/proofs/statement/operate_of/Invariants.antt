use Rattle.std.proofs.Common.{◌≡◌, [], drop}
use Rattle.mw_base.specs.Steps.{steps}
use Rattle.mw_pal.specs.Statements.{with_operation}
use Rattle.mw_pal.proofs.statement.operate_of.Given as goal

abbrev pub invariant-loop-token : goal.invariant-loop-token
invariant-loop-token l =
    steps (with_operation l.line) l.words.items (drop l.token-index l.line.tokens)
    ≡ steps (with_operation l.line) [] l.line.tokens
