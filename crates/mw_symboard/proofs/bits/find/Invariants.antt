use Rattle.std.proofs.Common.{◌≡◌, drop}
use Rattle.mw_cycle.specs.ReadingWords.{made_term}
use Rattle.mw_symboard.proofs.bits.find.Given as goal

abbrev pub invariant-loop-entry : goal.invariant-loop-entry
invariant-loop-entry l = made_term (drop l.entry-index l.made) l.bit ≡ made_term l.made l.bit
