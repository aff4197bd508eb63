use Rattle.std.proofs.Common.{ℕ, length}
use Rattle.mw_term.specs.Functions.{Function}
use Rattle.mw_term.specs.Rows.{last_made}
use Rattle.mw_dd.specs.Diagrams.{Keeps}
use Rattle.mw_blast.specs.Bits.{StandEach, AreFor}
use Rattle.mw_blast.specs.Entries.{entry_row}
use Rattle.mw_blast.proofs.entry.entry.Given as goal

abbrev pub invariant-loop-place : goal.invariant-loop-place
invariant-loop-place l = record {
  keeps : Keeps l.initial.dds l.dds;
  made : (F : ℕ → Function) → StandEach l.initial.dds l.index F
      → AreFor l.dds l.place (λ j. last_made (entry_row F (length l.index) l.map j)) l.bits.items;
}
