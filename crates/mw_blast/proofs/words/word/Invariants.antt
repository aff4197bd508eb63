use Rattle.mw_blast.specs.Rows.{IsSoFar}
use Rattle.mw_blast.proofs.words.word.Given as goal

abbrev pub invariant-loop-bit : goal.invariant-loop-bit
invariant-loop-bit l = IsSoFar l.fn.dds l.dds l.row l.a l.b l.fn.first l.carried l.bit l.bits.items
