-- The words of a cycle, along the decided bits that are known.
use Rattle.std.specs.Prelude.{ℕ, zero, suc, ◌+◌, ◌*◌, List, [], ◌∷◌, Bool, true, false, if◌then◌else◌, Option, Some}
use Rattle.std.specs.Prelude.{None}
use Rattle.mw_base.specs.Words.{num}
use Rattle.mw_board.specs.declared.parts.BoardParts.{BoardParts}
use Rattle.mw_board.specs.Store.{word_at}
use Rattle.mw_cycle.specs.declared.microword.Microword.{Microword}
use Rattle.mw_cycle.specs.BoardTerms.{Standing}
use Rattle.mw_cycle.specs.Decided.{decides_pass, decides_counter}
use Rattle.mw_cycle.specs.EdgeWords.{edge_words, Stands}
use Rattle.mw_cycle.specs.LeavingWords.{Leaving, leaving_words}
use Rattle.mw_cycle.specs.Microword.{points_of}
use Rattle.mw_cycle.specs.ReadingWords.{Reading, reading_words, zero_words}
use Rattle.mw_seq.specs.declared.instruction.Effect.{Effect}
use Rattle.mw_seq.specs.Instruction.{instruction_of, effect_of}
use Rattle.mw_term.specs.declared.op.Op.TheVariants.{Part}
use Rattle.mw_term.specs.WordList.{WordList, Ended, with_word}

-- How far a cycle has come: the list, where the board is, the bits that it hasn't met, and where it wants another one,
-- the term of that bit.
pub record Come : Type 0 where
  pub list : WordList
  pub to : Standing
  pub bits : List Bool
  pub asked : Option ℕ

-- it is done
abbrev pub done : List Bool → Stands → Come
done bits s = record { list = s.list; to = s.standing; bits = bits; asked = None }

-- it stops at a bit
abbrev pub stopped : Standing → Ended → Come
stopped s e = record { list = e.list; to = s; bits = []; asked = Some e.term }

-- the bits from one of the next address on, so many of them, where those before it are a number
abbrev pub along_address : BoardParts → Microword → Standing → Reading → Leaving → Effect → (left so_far : ℕ)
    → List Bool → WordList → Come
along_address board m s reading leaving effect zero so_far bits l =
    done bits (edge_words board m s reading leaving effect so_far l)
along_address board m s reading leaving effect (suc left) so_far [] l =
    stopped s (with_word (Part leaving.next left 1) l)
along_address board m s reading leaving effect (suc left) so_far (bit ∷ bits) l =
    along_address board m s reading leaving effect left (so_far * 2 + num bit) bits
    (with_word (Part leaving.next left 1) l).list

-- what stands behind pass and the counter: the end of the cycle by the entry of the Am2910's table, and bits 11 to 0 of
-- the next address
abbrev pub along_leaving : BoardParts → Microword → Standing → Reading → (pass zero_is : Bool) → List Bool
    → WordList → Come
along_leaving board m s reading pass zero_is bits l =
    let effect = effect_of (instruction_of m.sequencer) pass zero_is in
    let leaves = leaving_words board m s.parts s.sp reading.sources.noise effect l in
    along_address board m s reading leaves.leaving effect 12 0 bits leaves.list

-- whether the counter is zero, and what stands behind it
abbrev pub along_zero : BoardParts → Microword → Standing → Reading → (pass : Bool) → List Bool → WordList → Come
along_zero board m s reading pass [] l = stopped s (zero_words 12 s.parts.r l)
along_zero board m s reading pass (bit ∷ bits) l =
    along_leaving board m s reading pass bit bits (zero_words 12 s.parts.r l).list

-- the same where it is decided, and else what stands behind it
abbrev pub along_counter : BoardParts → Microword → Standing → Reading → (pass : Bool) → List Bool → WordList → Come
along_counter board m s reading pass bits l =
    if decides_counter m then along_zero board m s reading pass bits l
    else along_leaving board m s reading pass false bits l

-- pass, and what stands behind it
abbrev pub along_test : BoardParts → Microword → Standing → Reading → List Bool → WordList → Come
along_test board m s reading [] l = stopped s (record { list = l; term = reading.condition })
along_test board m s reading (bit ∷ bits) l = along_counter board m s reading bit bits l

-- the same where it is decided; where it isn't, it counts as passed
abbrev pub along_pass : BoardParts → Microword → Standing → Reading → List Bool → WordList → Come
along_pass board m s reading bits l =
    if decides_pass m then along_test board m s reading bits l else along_counter board m s reading true bits l

-- The words of a cycle from where a board is, along its decided bits.
unfoldable pub cycle_words : BoardParts → List ℕ → Standing → List Bool → WordList → Come
cycle_words board store s bits l =
    let m = points_of board (word_at board store s.at) in
    let read = reading_words board m s l in
    along_pass board m s read.reading bits read.list
