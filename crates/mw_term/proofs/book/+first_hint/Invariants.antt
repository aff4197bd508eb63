use Rattle.std.proofs.Common.{length}
use Rattle.mw_term.proofs.book.+first_hint.Given as goal

-- proposed from what the function passes where it calls itself
abbrev pub decreases-first_hint : goal.decreases-first_hint
decreases-first_hint g l = length l.rules.now
