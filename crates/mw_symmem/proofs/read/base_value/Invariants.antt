use Rattle.std.proofs.Common.{◌≡◌, ◌≤◌, ℕ, List, length, drop, Some}
use Rattle.std.specs.Prelude.{slice_get}
use Rattle.mw_term.specs.MemoryRead.{Held}
use Rattle.mw_term.specs.Table.{ArePair, widths_of}
use Rattle.mw_term.specs.WordList.{ended, list_of, over_reads}
use Rattle.mw_symmem.specs.Steps.{Grows, IsBaseValue}
use Rattle.mw_symmem.proofs.read.base_value.Given as goal

abbrev pub invariant-loop-place : goal.invariant-loop-place
invariant-loop-place l = record {
  within : l.place ≤ length l.reads;
  made : (made : List ℕ) × Grows l.fn.terms l.terms l.fn.words l.words made
      × IsBaseValue l.terms (drop l.place l.reads) (drop l.place l.same) l.fn.base made l.value;
  listed : (reads : List Held) → ended l.value (list_of l.terms.ops l.words reads)
      ≡ over_reads (drop l.place l.reads) (drop l.place l.same) l.fn.base (list_of l.fn.terms.ops l.fn.words reads);
  pairs : (k : ℕ) (read : Held) → slice_get l.reads k ≡ Some read → ArePair (widths_of l.terms.ops) read.word l.value;
}

abbrev pub decreases-loop-place : goal.decreases-loop-place
decreases-loop-place l = l.place
