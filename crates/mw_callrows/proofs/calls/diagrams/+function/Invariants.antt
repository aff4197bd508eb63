use Rattle.std.proofs.Common.{length}
use Rattle.mw_callrows.proofs.calls.diagrams.+function.Given as goal

abbrev pub decreases-function : goal.decreases-function
decreases-function l = length l.words.now.items
