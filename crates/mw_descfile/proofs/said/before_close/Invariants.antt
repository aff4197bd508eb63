use Rattle.std.proofs.Common.{◌≡◌, ◌+◌, ◌≤◌, drop}
use Rattle.mw_descfile.specs.Statements.{before_close}
use Rattle.mw_descfile.proofs.said.before_close.Given as goal

abbrev pub invariant-loop-i : goal.invariant-loop-i
invariant-loop-i l = record {
  told : l.i + before_close l.text l.open_now (drop l.i l.tokens) ≡ before_close l.text 1 l.tokens;
  few : l.open_now ≤ l.i + 1;
}
