use Rattle.mw_term.specs.Cofactors.{variable, value_of}
use Rattle.mw_dd.specs.Diagrams.{Keeps}
use Rattle.mw_blast.specs.Bits.{AreFor}
use Rattle.mw_blast.proofs.functions.variables.Given as goal

abbrev pub invariant-loop-place : goal.invariant-loop-place
invariant-loop-place l = record {
  made : AreFor l.dds l.place (λ j. value_of (variable j l.word)) l.bits.items;
  keeps : Keeps l.initial.dds l.dds;
}
