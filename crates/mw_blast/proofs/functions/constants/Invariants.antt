use Rattle.mw_base.specs.Words.{bit_of}
use Rattle.mw_blast.specs.Bits.{AreFor}
use Rattle.mw_blast.proofs.functions.constants.Given as goal

abbrev pub invariant-loop-place : goal.invariant-loop-place
invariant-loop-place l = AreFor l.dds l.place (λ j given. bit_of l.number j) l.bits.items
