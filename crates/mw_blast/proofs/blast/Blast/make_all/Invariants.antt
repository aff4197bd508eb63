use Rattle.mw_dd.specs.Diagrams.{Keeps}
use Rattle.mw_blast.specs.Kept.{IsOf, IsOnTheWay, distance}
use Rattle.mw_blast.proofs.blast.Blast.make_all.Given as goal

abbrev pub invariant-loop-alloc : goal.invariant-loop-alloc
invariant-loop-alloc l = record {
  way : IsOnTheWay l.terms l.self l.fn.term l.waiting.items;
  of : IsOf l.terms l.dds l.self;
  keeps : Keeps l.initial.dds l.dds;
}

abbrev pub decreases-loop-alloc : goal.decreases-loop-alloc
decreases-loop-alloc l = distance l.fn.term l.self l.waiting.items
