use Rattle.std.proofs.Common.{◌≡◌, take}
use Rattle.mw_cycle.specs.Environment.{values_of}
use Rattle.mw_replay.proofs.printed.kept_values.Given as goal

abbrev pub invariant-loop-number : goal.invariant-loop-number
invariant-loop-number l = l.values.items ≡ take l.number (values_of l.env l.series)
