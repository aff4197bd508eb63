-- The words that are left of a symbolic cycle, along the decided bits that are still to come.
use Rattle.std.specs.Prelude.{◌≡◌, ℕ, ◌-◌, List, [], ◌∷◌, ◌++◌, length, Bool, ◌&&◌, ◌==◌, nat_lt, if◌then◌else◌, Option}
use Rattle.std.specs.Prelude.{Some, None}
use Rattle.mw_board.specs.declared.parts.BoardParts.{BoardParts}
use Rattle.mw_cycle.specs.declared.microword.Microword.{Microword}
use Rattle.mw_cycle.specs.BoardTerms.{Standing}
use Rattle.mw_cycle.specs.CycleWords.{Come, along_address, along_leaving, along_test, along_zero, cycle_words, done}
use Rattle.mw_cycle.specs.CycleWords.{stopped}
use Rattle.mw_cycle.specs.Decided.{decides_pass}
use Rattle.mw_cycle.specs.EdgeWords.{Stands}
use Rattle.mw_cycle.specs.ReadingWords as words
use Rattle.mw_term.specs.declared.decided.DecidedKind.{DecidedKind}
use Rattle.mw_term.specs.MemoryRead.{Held}
use Rattle.mw_term.specs.Numbered.{IsNumbered}
use Rattle.mw_term.specs.WordList.{WordList, ended}
use Rattle.mw_symmem.specs.declared.turn.Turn.{Turn}
use Rattle.mw_symmem.specs.declared.turn.Turn.TheVariants.{Ask, Finished}
use Rattle.mw_symmem.specs.Memory.{Memory, writes_of}
use Rattle.mw_symboard.specs.declared.leaving.Leaving.{Leaving}
use Rattle.mw_symboard.specs.declared.reading.Reading.{Reading}
use Rattle.mw_symboard.specs.Cycle.{bits_before, effect_by, number_in, pass_by, zero_by}
use Rattle.mw_symboard.specs.Listed.{leaving_of, reading_of, standing_of}
use Rattle.mw_symboard.specs.Seen.{Progress, microword_of}
use Rattle.mw_symboard.specs.Turns.{Symbolic, decided_so}

-- where it was before its cycle, whose side had these writes
abbrev pub standing_in : Symbolic → (writes : List Held) → Standing
standing_in o writes = standing_of o.place writes o.events

-- the words from pass or the counter on, where one of them is still to be decided
abbrev pub left_to_test : BoardParts → Microword → Progress → Standing → words.Reading → List Bool → WordList → Come
left_to_test board m p s reading bits l =
    if decides_pass m && (length p.decided == 0) then along_test board m s reading bits l
    else along_zero board m s reading (pass_by m p.decided) bits l

-- the words behind what a cycle has read
abbrev pub left_behind_reading : BoardParts → Microword → Progress → Standing → words.Reading → List Bool
    → WordList → Come
left_behind_reading board m p s reading bits l =
    if nat_lt (length p.decided) (bits_before m) then left_to_test board m p s reading bits l
    else along_leaving board m s reading (pass_by m p.decided) (zero_by m p.decided) bits l

-- how many bits of the next address are decided
abbrev pub address_bits_of : Microword → Progress → ℕ
address_bits_of m p = length p.decided - bits_before m

-- those of the next address that are left, and of the edge
abbrev pub left_of_address : BoardParts → Microword → Progress → Standing → words.Reading → Leaving → List Bool
    → WordList → Come
left_of_address board m p s reading leaving bits l =
    along_address board m s reading (leaving_of leaving) (effect_by m p.decided) (12 - address_bits_of m p)
    (number_in p.decided (bits_before m) (address_bits_of m p)) bits l

-- those of a cycle that may have begun
abbrev pub left_by : BoardParts → List ℕ → Progress → Standing → Option Reading → Option Leaving → List Bool
    → WordList → Come
left_by board store p s None leaving bits l = cycle_words board store s bits l
left_by board store p s (Some reading) None bits l =
    left_behind_reading board (microword_of board store p) p s (reading_of reading) bits l
left_by board store p s (Some reading) (Some leaving) bits l =
    left_of_address board (microword_of board store p) p s (reading_of reading) leaving bits l

-- The words that are left of its cycle, along further bits, where its side had these writes before the cycle.
abbrev pub words_left : BoardParts → List ℕ → Symbolic → (writes : List Held) → List Bool → WordList → Come
words_left board store o writes bits l = left_by board store o.place (standing_in o writes) o.reading o.leaving bits l

-- It asks for a bit: the words up to that bit are there, and each value goes on with the words that are left then.
pub record StopsAt (board : BoardParts) (store : List ℕ) (writes : List Held) (old new : Symbolic)
    (lold lnew : WordList) (kind : DecidedKind) (term : ℕ) : Type 0 where
  pub here : words_left board store old writes [] lold ≡ stopped (standing_in old writes) (ended term lnew)
  pub on : (bit : Bool) (bits : List Bool)
      → words_left board store old writes (bit ∷ bits) lold
      ≡ words_left board store (decided_so new kind bit) writes bits lnew

-- Its cycle is done: all its words are there, it is where they lead, and the next cycle hasn't begun.
pub record Ends (board : BoardParts) (store : List ℕ) (mold mnew : Memory) (old new : Symbolic)
    (lold lnew : WordList) : Type 0 where
  pub here : (bits : List Bool) → words_left board store old (writes_of mold old.place.side) bits lold
      ≡ done bits (record { list = lnew; standing = standing_in new (writes_of mnew old.place.side) })
  pub before : new.reading ≡ None

-- a turn of a symbolic board adds words of the word table
abbrev pub ListsTurn : BoardParts → List ℕ → (mold mnew : Memory) → (old new : Symbolic)
    → (lold lnew : WordList) → Turn → Type 0
ListsTurn board store mold mnew old new lold lnew (Ask kind term) =
    StopsAt board store (writes_of mold old.place.side) old new lold lnew kind term
ListsTurn board store mold mnew old new lold lnew Finished = Ends board store mold mnew old new lold lnew

-- no words but those that are left were added
abbrev pub GoesAlong : BoardParts → List ℕ → (writes : List Held) → (old new : Symbolic)
    → (lold lnew : WordList) → Type 0
GoesAlong board store writes old new lold lnew =
    (bits : List Bool) → words_left board store old writes bits lold ≡ words_left board store new writes bits lnew

-- ---- a whole cycle

-- It has come along some bits of a cycle that began at a standing with a list: with all further bits the words of the
-- cycle are those that are left.
abbrev pub IsAlong : BoardParts → List ℕ → (start : Standing) → WordList → (bits : List Bool) → (writes : List Held)
    → Symbolic → (now : WordList) → Type 0
IsAlong board store start l bits writes o now =
    (more : List Bool) → cycle_words board store start (bits ++ more) l ≡ words_left board store o writes more now

-- A turn along a cycle: where it asks, the words of the cycle stop at its term, and each value of the bit goes on along
-- the cycle; where it is finished, the words of the cycle along the bits so far are all there, and it is
-- where they lead.
abbrev pub GoesAlongCycle : BoardParts → List ℕ → (start : Standing) → WordList → (bits : List Bool)
    → (mold mnew : Memory) → (old new : Symbolic) → (lnew : WordList) → Turn → Type 0
GoesAlongCycle board store start l bits mold mnew old new lnew (Ask kind term) =
    (cycle_words board store start bits l ≡ stopped (standing_in old (writes_of mold old.place.side)) (ended term lnew))
    × ((bit : Bool)
    → IsAlong board store start l (bits ++ bit ∷ []) (writes_of mold old.place.side) (decided_so new kind bit) lnew)
GoesAlongCycle board store start l bits mold mnew old new lnew Finished =
    cycle_words board store start bits l
    ≡ done [] (record { list = lnew; standing = standing_in new (writes_of mnew old.place.side) })

-- a cycle begins along no bits
abbrev pub CyclesBegin : Type 0
CyclesBegin = (board : BoardParts) (store : List ℕ) (o : Symbolic) (writes : List Held) (l : WordList)
    → o.reading ≡ None → IsAlong board store (standing_in o writes) l [] writes o l

-- and its turns go along it
abbrev pub CyclesGoAlong : Type 0
CyclesGoAlong =
    (board : BoardParts) (store : List ℕ) (start : Standing) (l : WordList) (bits : List Bool) (mold mnew : Memory)
    (old new : Symbolic) (lold lnew : WordList) (turn : Turn)
    → IsAlong board store start l bits (writes_of mold old.place.side) old lold
    → ListsTurn board store mold mnew old new lold lnew turn
    → GoesAlongCycle board store start l bits mold mnew old new lnew turn

-- where each term of a list that is no constant has a word, so it is with the words of a cycle, along any bits
abbrev pub CyclesAreNumbered : Type 0
CyclesAreNumbered = (board : BoardParts) (store : List ℕ) (start : Standing) (bits : List Bool) (l : WordList)
    → IsNumbered l → IsNumbered (cycle_words board store start bits l).list
