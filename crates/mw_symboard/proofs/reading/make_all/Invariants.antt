use Rattle.std.proofs.Common.{◌≡◌, List, drop}
use Rattle.mw_cycle.specs.ReadingWords.{all_read_words}
use Rattle.mw_term.specs.MemoryRead.{Held}
use Rattle.mw_symboard.specs.Bits.{AreBits}
use Rattle.mw_symboard.specs.Growth.{Grew}
use Rattle.mw_symboard.specs.Listed.{bits_made}
use Rattle.mw_symboard.specs.Made.{sources_of}
use Rattle.mw_symboard.proofs.reading.make_all.Given as goal

abbrev pub invariant-loop-bit : goal.invariant-loop-bit
invariant-loop-bit l = record {
  grew : Grew l.fn.terms l.terms l.fn.words l.words;
  right : AreBits l.board l.terms l.place.parts l.place.sp l.sources l.bits;
  so_far : (reads : List Held)
      → all_read_words l.board l.microword l.place.parts l.place.sp (sources_of l.sources) l.in_order
      (bits_made l.fn.terms l.fn.words reads l.fn.bits)
      ≡ all_read_words l.board l.microword l.place.parts l.place.sp (sources_of l.sources) (drop l.bit-index l.in_order)
      (bits_made l.terms l.words reads l.bits);
}
