use Rattle.std.proofs.Common.{◌≡◌, ℕ, List, ◌+◌, ◌-◌, ◌≤◌, ◌++◌, length, drop}
use Rattle.mw_base.specs.declared.token.Token.{Token}
use Rattle.mw_base.specs.Reading.{with_front}
use Rattle.mw_base.specs.Tokens.{tokens_from, InOrder, slice}
use Rattle.mw_base.proofs.scan.push_pieces.Given as goal

abbrev pub invariant-loop-at : goal.invariant-loop-at
invariant-loop-at l = record {
  reads : with_front l.tokens.items (tokens_from l.number l.start l.at 0 (drop l.at l.line))
      ≡ with_front l.initial.tokens.items (tokens_from l.number l.start 0 0 l.line);
  ordered : (text : List ℕ) (front : List Token) → slice text l.start (l.start + length l.line) ≡ l.line
      → InOrder text l.start (front ++ l.initial.tokens.items)
      → InOrder text (l.start + l.at) (front ++ l.tokens.items);
  inside : l.at ≤ length l.line;
}

abbrev pub decreases-loop-at : goal.decreases-loop-at
decreases-loop-at l = length l.line - l.at
