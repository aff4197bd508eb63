use Rattle.std.proofs.Common.{◌≡◌, take}
use Rattle.mw_base.specs.Literals.{value_of}
use Rattle.mw_base.proofs.literal.value_of.Given as goal

abbrev pub invariant-loop-c : goal.invariant-loop-c
invariant-loop-c l = l.value ≡ value_of l.base (take l.c-index l.text)
