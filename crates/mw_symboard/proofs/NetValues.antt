-- The words of a cycle have the values of its nets.
use Rattle.std.proofs.Common.{◌≡◌, ℕ, List, Some}
use Rattle.mw_board.specs.declared.parts.BoardParts.{BoardParts}
use Rattle.mw_term.specs.declared.word.Word.{Word}
use Rattle.mw_term.specs.Table.{Table}
use Rattle.mw_symmem.specs.Memory.{Memory}
use Rattle.mw_symboard.specs.declared.leaving.Leaving.{Leaving}
use Rattle.mw_symboard.specs.declared.reading.Reading.{Reading}
use Rattle.mw_symboard.specs.Cycle.{IsReading}
use Rattle.mw_symboard.specs.Nets.{IsCycle, NetsHaveValues, SayBits, SaysLeaving, SaysReading}
use Rattle.mw_symboard.specs.Seen.{microword_of}
use Rattle.mw_symboard.specs.Turns.{Symbolic}
use Rattle.mw_symboard.proofs.SaysBits.{says_bit_term, says_early}
use Rattle.mw_symboard.proofs.SaysLeaving.{says_leaving}
use Rattle.mw_symboard.proofs.SaysReading.{says_reading}
use Rattle.mw_symboard.proofs.Turning.{leaving_known, read_known}

module _ {board : BoardParts} {store : List ℕ} {t : Table} {words : List Word} {m : Memory} {o : Symbolic} where
  -- what a cycle has read is known
  known : (r : Reading) → IsCycle board store t words m o → o.reading ≡ Some r
      → IsReading board (microword_of board store o.place) t words m o.place r
  known r is at = (read_known board store t words m o.place o.reading r at is.symbolic.reading).0

  -- and says what it should
  says : (r : Reading)
      → IsCycle board store t words m o → o.reading ≡ Some r → SaysReading board store t words m o.place r
  says r is at = says_reading r is.table is.valid is.symbolic.parts is.microword (known r is at)

  says_bits : (r : Reading)
      → IsCycle board store t words m o → o.reading ≡ Some r → SayBits board store t words m o.place r.bits
  says_bits r is at = record {
    early = λ k b found named.
        says_early r.sources.line b.bit b.term is.table is.symbolic.parts named (says r is at).sources.line
        ((known r is at).bits.early k b found).1;
    late = λ k b found named.
        says_bit_term r.sources b.bit b.term is.table is.symbolic.parts named (says r is at).sources
        ((known r is at).bits.late k b found).1;
  }

  says_end : (r : Reading) (l : Leaving) → IsCycle board store t words m o → o.reading ≡ Some r → o.leaving ≡ Some l
      → SaysLeaving board store t words m o.place l
  says_end r l is at left =
      let end = leaving_known board store t o.place o.reading o.leaving r l at left is.symbolic.leaving in
      says_leaving l r.sources.noise is.table is.valid is.symbolic.parts is.microword is.map is.symbolic.sp end.1
      (says r is at).sources.noise end.0

pub nets_have_values : NetsHaveValues
nets_have_values board store t words m o is =
    record { reading = λ r. says r is; bits = λ r. says_bits r is; leaving = λ r l. says_end r l is }
