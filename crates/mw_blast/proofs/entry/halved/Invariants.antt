use Rattle.std.proofs.Common.{◌≡◌, List, length}
use Rattle.mw_term.specs.Functions.{Function}
use Rattle.mw_dd.specs.Diagrams.{Keeps}
use Rattle.mw_blast.specs.Bits.{StandsFor, AreThere, AreFor}
use Rattle.mw_blast.specs.Entries.{function_at, half_at}
use Rattle.mw_blast.proofs.entry.halved.Given as goal

abbrev pub invariant-loop-pair : goal.invariant-loop-pair
invariant-loop-pair l = record {
  there : AreThere l.dds l.halves.items;
  keeps : Keeps l.initial.dds l.dds;
  made : (I : Function) (fs : List Function) → StandsFor l.initial.dds l.chosen I
      → AreFor l.initial.dds (length fs) (function_at fs) l.functions
      → AreFor l.dds l.pair (half_at I fs) l.halves.items;
  count : length l.halves.items ≡ l.pair;
}
