use Rattle.std.proofs.Common.{◌≡◌, List, [], drop, length}
use Rattle.mw_cycle.specs.EdgeWords.{flips_words}
use Rattle.mw_term.specs.MemoryRead.{Held}
use Rattle.mw_symboard.specs.Listed.{loaded_in}
use Rattle.mw_symboard.specs.Made.{sources_of}
use Rattle.mw_symboard.specs.Bits.{AreBits}
use Rattle.mw_symboard.specs.Growth.{Grew}
use Rattle.mw_symboard.proofs.Loads.{AreSoFar}
use Rattle.mw_symboard.proofs.edge.flips.Given as goal

abbrev pub invariant-loop-flipflop : goal.invariant-loop-flipflop
invariant-loop-flipflop l = record {
  count : length l.flips.items ≡ l.flipflop-index;
  grew : Grew l.fn.terms l.terms l.fn.words l.words;
  right : AreBits l.board l.terms l.parts l.sp l.sources l.bits;
  so_far : AreSoFar l.board l.microword l.terms l.parts l.sp l.sources l.flips.items;
  listed : (reads : List Held)
      → flips_words l.board l.microword l.parts l.sp (sources_of l.sources) l.board.flipflop l.parts.flips
      (loaded_in l.fn.terms l.fn.words reads l.fn.bits [])
      ≡ flips_words l.board l.microword l.parts l.sp (sources_of l.sources) (drop l.flipflop-index l.board.flipflop)
      (drop l.flipflop-index l.parts.flips) (loaded_in l.terms l.words reads l.bits l.flips.items);
}
