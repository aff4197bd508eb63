use Rattle.std.proofs.Common.{◌≡◌, drop}
use Rattle.mw_macro.specs.Rules.{are_free}
use Rattle.mw_macro.proofs.rules.are_free.Given as goal

abbrev pub invariant-loop-i : goal.invariant-loop-i
invariant-loop-i l = are_free (drop l.i l.names) ≡ are_free l.names
