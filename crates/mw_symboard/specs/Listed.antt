-- The words that a cycle adds on terms are those of the word table.
use Rattle.std.specs.Prelude.{◌≡◌, ℕ, ◌+◌, List, ◌++◌, None, Option}
use Rattle.mw_cycle.specs.declared.microword.Microword.{Microword}
use Rattle.mw_cycle.specs.BoardTerms.{Standing}
use Rattle.mw_cycle.specs.EdgeWords.{Loaded, Takes, shown, taken_after, with_write_if}
use Rattle.mw_cycle.specs.LeavingWords as ends
use Rattle.mw_cycle.specs.ReadingWords as words
use Rattle.mw_cycle.specs.ReadingWords.{Bits, BitEnded, BitsMade, Operands, SourcesMade}
use Rattle.mw_term.specs.declared.event.SymEvent.{SymEvent}
use Rattle.mw_term.specs.declared.word.Word.{Word}
use Rattle.mw_term.specs.MemoryRead.{Held}
use Rattle.mw_term.specs.Table.{Table}
use Rattle.mw_term.specs.WordList.{WordList, ended, list_of}
use Rattle.mw_symmem.specs.Listed.{list_in}
use Rattle.mw_symmem.specs.Memory.{Memory}
use Rattle.mw_symboard.specs.declared.bits.Sources.{Sources}
use Rattle.mw_symboard.specs.declared.leaving.Leaving.{Leaving}
use Rattle.mw_symboard.specs.declared.reading.Reading.{Reading}
use Rattle.mw_symboard.specs.Made.{sources_of}
use Rattle.mw_symboard.specs.Seen.{Progress}

-- What is added of a bit ends at a term, and is, with the bits that were made, what the table says, whatever base reads
-- there are.
abbrev pub ListsBit : (said : Bits → WordList → BitEnded)
    → (told tnew : Table) → (wold wnew : List Word) → (bold bnew : Bits) → (term : ℕ) → Type 0
ListsBit said told tnew wold wnew bold bnew term =
    (reads : List Held) → record {
      list = list_of tnew.ops wnew reads;
      term = term;
      bits = bnew;
    } ≡ said bold (list_of told.ops wold reads)

-- the list and the bits that were made
abbrev pub bits_made : Table → List Word → (reads : List Held) → Bits → BitsMade
bits_made t words reads made = record { list = list_of t.ops words reads; bits = made }

-- the same where the list and the bits that were made are one record
abbrev pub ListsFrom : (said : BitsMade → BitEnded) → (told tnew : Table) → (wold wnew : List Word) → (bold bnew : Bits)
    → (term : ℕ) → Type 0
ListsFrom said told tnew wold wnew bold bnew term =
    ListsBit (λ made l. said (record { list = l; bits = made })) told tnew wold wnew bold bnew term

-- and where what ends is something that is taken, or nothing
abbrev pub ListsTaken : (said : BitsMade → Takes) → (told tnew : Table) → (wold wnew : List Word) → (bold bnew : Bits)
    → (taken : Option ℕ) → Type 0
ListsTaken said told tnew wold wnew bold bnew taken =
    (reads : List Held) → record {
      list = list_of tnew.ops wnew reads;
      bits = bnew;
      taken = taken;
    } ≡ said (bits_made told wold reads bold)

-- ---- as the definitions of the words have it

-- where a symbolic board is between two cycles
abbrev pub standing_of : Progress → (writes : List Held) → List SymEvent → Standing
standing_of p writes events = record {
  side = p.side;
  at = p.at;
  sp = p.sp;
  parts = p.parts;
  writes = writes;
  events = events;
  cycle = p.cycle;
  taken = p.taken;
  line = p.line;
}

-- what is known of a cycle's end
abbrev pub leaving_of : Leaving → ends.Leaving
leaving_of l = record { next = l.next; r = l.r }

-- the terms of the flip-flops so far
abbrev pub loaded_in : Table → List Word → (reads : List Held) → Bits → (flips : List ℕ) → Loaded
loaded_in t words reads made flips = record { list = list_of t.ops words reads; bits = made; flips = flips }

-- two operands
abbrev pub operands_in : Table → List Word → (reads : List Held) → ℕ × ℕ → Operands
operands_in t words reads both = record { list = list_of t.ops words reads; r = both.0; s = both.1 }

-- what bits are made of, and those that were made
abbrev pub sources_in : Table → List Word → (reads : List Held) → Sources → Bits → SourcesMade
sources_in t words reads n made = record { list = list_of t.ops words reads; sources = sources_of n; bits = made }

-- what a cycle has read
abbrev pub reading_of : Reading → words.Reading
reading_of r = record {
  sources = sources_of r.sources;
  bits = r.bits;
  source = r.source;
  y = r.y;
  condition = r.condition;
}

-- the same in a list
abbrev pub reading_in : Table → List Word → Memory → Reading → words.HasRead
reading_in t ws m r = record { list = list_in t ws m; reading = reading_of r }

-- where a board is after a cycle from one place to another, with these writes and events before it
abbrev pub standing_after : Microword → (old new : Progress) → words.Reading → (writes : List Held)
    → List SymEvent → Standing
standing_after m old new reading writes events = record {
  side = old.side;
  at = new.at;
  sp = new.sp;
  parts = new.parts;
  writes = with_write_if m.memory_write old.parts.mar reading.y writes;
  events = events ++ shown m.d.from m.out reading.source reading.y;
  cycle = old.cycle + 1;
  taken = taken_after m.d.from old.taken;
  line = None;
}
