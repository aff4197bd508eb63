use Rattle.std.proofs.Common.{◌≡◌, take}
use Rattle.mw_term.specs.Assigned.{given_by}
use Rattle.mw_term.specs.Values.{values_of}
use Rattle.mw_term.proofs.written.Written.value.Given as goal

abbrev pub invariant-loop-place : goal.invariant-loop-place
invariant-loop-place l =
    l.values.items ≡ values_of l.self-inside.map.items (given_by l.given) (take l.place l.self-inside.ops.items)
