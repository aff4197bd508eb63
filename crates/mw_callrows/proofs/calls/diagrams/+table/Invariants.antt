use Rattle.std.proofs.Common.{length}
use Rattle.mw_callrows.proofs.calls.diagrams.+table.Given as goal

abbrev pub decreases-table : goal.decreases-table
decreases-table l = length l.digits.now
