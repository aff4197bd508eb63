use Rattle.std.proofs.Common.{◌≡◌, take}
use Rattle.mw_dd.specs.Links.{keys_of}
use Rattle.mw_dd.proofs.table.Table.grown.Given as goal

abbrev pub invariant-loop-place : goal.invariant-loop-place
invariant-loop-place g l = l.grown ≡ keys_of (take l.place l.self-inside.entries.items)
