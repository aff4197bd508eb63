use Rattle.std.proofs.Common.{◌≡◌, ◌-◌, List}
use Rattle.std.specs.Prelude.{map}
use Rattle.mw_board.specs.declared.bit.Bit.TheVariants.{Ir}
use Rattle.mw_cycle.specs.Boundary.{numbers}
use Rattle.mw_cycle.specs.ReadingWords.{all_read_words}
use Rattle.mw_term.specs.MemoryRead.{Held}
use Rattle.mw_symboard.specs.Bits.{AreBits}
use Rattle.mw_symboard.specs.Growth.{Grew}
use Rattle.mw_symboard.specs.Listed.{bits_made}
use Rattle.mw_symboard.specs.Made.{sources_of}
use Rattle.mw_symboard.proofs.reading.make_ir_bits.Given as goal

abbrev pub invariant-loop-number : goal.invariant-loop-number
invariant-loop-number l = record {
  grew : Grew l.fn.terms l.terms l.fn.words l.words;
  right : AreBits l.board l.terms l.place.parts l.place.sp l.sources l.bits;
  so_far : (reads : List Held) → all_read_words l.board l.microword l.place.parts l.place.sp (sources_of l.sources)
      (map Ir (numbers 0 l.board.width)) (bits_made l.fn.terms l.fn.words reads l.fn.bits)
      ≡ all_read_words l.board l.microword l.place.parts l.place.sp (sources_of l.sources)
      (map Ir (numbers l.number (l.board.width - l.number))) (bits_made l.terms l.words reads l.bits);
}
