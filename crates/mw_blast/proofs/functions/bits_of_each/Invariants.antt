use Rattle.mw_blast.specs.Bits.{AreFor}
use Rattle.mw_blast.specs.Entries.{bits_at, function_at}
use Rattle.mw_blast.proofs.functions.bits_of_each.Given as goal

abbrev pub invariant-loop-number : goal.invariant-loop-number
invariant-loop-number l = AreFor l.dds l.number-index (function_at (bits_at l.place l.numbers)) l.bits.items
