use Rattle.std.proofs.Common.{◌≡◌, ℕ, List, drop, take, Some}
use Rattle.std.specs.Prelude.{slice_get}
use Rattle.mw_term.specs.MemoryRead.{Held}
use Rattle.mw_term.specs.Table.{ArePair, widths_of}
use Rattle.mw_term.specs.WordList.{list_of, over_writes}
use Rattle.mw_symmem.specs.Steps.{Grows, IsSideValue}
use Rattle.mw_symmem.proofs.read.side_value.Given as goal

abbrev pub invariant-loop-write : goal.invariant-loop-write
invariant-loop-write l = record {
  made : (made : List ℕ) × Grows l.fn.terms l.terms l.fn.words l.words made
      × IsSideValue l.terms l.address (take l.write-index l.writes) l.fn.base made l.value;
  listed : (reads : List Held)
      → over_writes l.address (drop l.write-index l.writes) l.value (list_of l.terms.ops l.words reads)
      ≡ over_writes l.address l.writes l.fn.base (list_of l.fn.terms.ops l.fn.words reads);
  pairs : (k : ℕ) (write : Held)
      → slice_get l.writes k ≡ Some write → ArePair (widths_of l.terms.ops) write.word l.value;
}
