use Rattle.std.proofs.Common.{◌≡◌, take}
use Rattle.mw_explore.specs.Ways.{bits_of}
use Rattle.mw_explore.proofs.way.bits_of.Given as goal

abbrev pub invariant-loop-one : goal.invariant-loop-one
invariant-loop-one l = l.bits.items ≡ bits_of (take l.one-index l.kept)
