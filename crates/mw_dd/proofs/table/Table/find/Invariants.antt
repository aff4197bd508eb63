use Rattle.std.proofs.Common.{◌+◌, length, nat_lt}
use Rattle.std.specs.Prelude.{if◌then◌else◌}
use Rattle.mw_dd.proofs.Links.{Ahead}
use Rattle.mw_dd.proofs.table.Table.find.Given as goal

abbrev pub invariant-loop-place : goal.invariant-loop-place
invariant-loop-place g l = Ahead l.self-inside.entries.items l.key l.place

abbrev pub decreases-loop-place : goal.decreases-loop-place
decreases-loop-place g l = if nat_lt l.place (length l.self-inside.entries.items) then l.place + 1 else 0
