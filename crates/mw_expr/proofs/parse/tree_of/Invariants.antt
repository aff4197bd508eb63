use Rattle.std.proofs.Common.{◌≡◌, drop}
use Rattle.mw_expr.specs.Placed.{known}
use Rattle.mw_expr.specs.Grammar.{tree_from, tree_of}
use Rattle.mw_expr.specs.Words.{meaning_seen}
use Rattle.mw_expr.proofs.parse.tree_of.Given as goal

abbrev pub invariant-loop-token : goal.invariant-loop-token
invariant-loop-token l = record {
  told : tree_from (meaning_seen l.meaning) l.cursor (known l.state) (drop l.token-index l.tokens) ≡ tree_of
      (meaning_seen l.meaning) l.cursor;
}
