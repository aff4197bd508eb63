-- The words of how a cycle goes on: whether the counter is zero, the counter, and the next address.
use Rattle.std.specs.Prelude.{ℕ, ◌-◌, Bool, true, false, ◌==◌, slice_index}
use Rattle.mw_board.specs.declared.parts.BoardParts.{BoardParts}
use Rattle.mw_cycle.specs.declared.microword.Microword.{Microword}
use Rattle.mw_cycle.specs.BoardTerms.{Parts}
use Rattle.mw_seq.specs.declared.instruction.AddressFrom.{AddressFrom}
use Rattle.mw_seq.specs.declared.instruction.AddressFrom.TheVariants as addresses
use Rattle.mw_seq.specs.declared.instruction.CounterMove.{CounterMove}
use Rattle.mw_seq.specs.declared.instruction.CounterMove.TheVariants as counters
use Rattle.mw_seq.specs.declared.instruction.Effect.{Effect}
use Rattle.mw_seq.specs.declared.instruction.Instruction.{Instruction}
use Rattle.mw_seq.specs.declared.instruction.Instruction.TheVariants.{Jmap, Cjv}
use Rattle.mw_seq.specs.Instruction.{instruction_of}
use Rattle.mw_term.specs.declared.op.Op.TheVariants.{Sum, Part, Tab}
use Rattle.mw_term.specs.WordList.{WordList, Ended, ended, with_constant, with_word, with_part}

-- what the map gives for the instruction register, where it has no bits or some
abbrev pub entry_words : (none : Bool) → BoardParts → (ir : ℕ) → WordList → Ended
entry_words true board ir l = with_constant 0 12 l
entry_words false board ir l =
    let index = with_part board.width ir board.map_low board.map_bits l in
    with_word (Tab index.term) index.list

-- the address at the Am2910's D: by the map in JMAP and the vector in CJV, else the branch field
abbrev pub direct_words : Instruction → BoardParts → Microword → (ir : ℕ) → WordList → Ended
direct_words Jmap board m ir l = entry_words (board.map_bits == 0) board ir l
direct_words Cjv board m ir l = with_constant board.vector 12 l
direct_words other board m ir l = with_constant m.branch 12 l

-- a counter less one: the sum of 12 bits with 0xFFF
abbrev pub less_one_words : (r : ℕ) → WordList → Ended
less_one_words r l =
    let ones = with_constant 4095 12 l in
    let zero = with_constant 0 1 ones.list in
    with_word (Sum r ones.term zero.term) zero.list

-- the register/counter after the edge
abbrev pub counter_words : (rld : Bool) → CounterMove → (r direct : ℕ) → WordList → Ended
counter_words true move r direct l = ended direct l
counter_words false counters.Same r direct l = ended r l
counter_words false counters.Loaded r direct l = ended direct l
counter_words false counters.Counted r direct l = less_one_words r l

-- F, the top of the stack; of an empty one the noise has its bits
abbrev pub top_words : (empty : Bool) → Parts → (sp noise : ℕ) → WordList → Ended
top_words true p sp noise l = with_word (Part noise 0 12) l
top_words false p sp noise l = ended (slice_index p.stack (sp - 1)) l

-- the next address
abbrev pub next_words : AddressFrom → Parts → (sp noise direct : ℕ) → WordList → Ended
next_words addresses.Zero p sp noise direct l = with_constant 0 12 l
next_words addresses.Pc p sp noise direct l = ended p.pc l
next_words addresses.D p sp noise direct l = ended direct l
next_words addresses.R p sp noise direct l = ended p.r l
next_words addresses.F p sp noise direct l = top_words (sp == 0) p sp noise l

-- the next address, and the register/counter after the edge
pub record Leaving : Type 0 where
  pub next : ℕ
  pub r : ℕ

-- a list, and what is known in it of a cycle's end
pub record Leaves : Type 0 where
  pub list : WordList
  pub leaving : Leaving

-- The words of a cycle's end, by the entry of the Am2910's table. R-1 is made before the next address; D, which stands
-- before both, has words in JMAP alone, which doesn't count.
unfoldable pub leaving_words : BoardParts → Microword → Parts → (sp noise : ℕ) → Effect → WordList → Leaves
leaving_words board m p sp noise effect l =
    let direct = direct_words (instruction_of m.sequencer) board m p.ir l in
    let r = counter_words m.rld effect.counter p.r direct.term direct.list in
    let next = next_words effect.next p sp noise direct.term r.list in
    record { list = next.list; leaving = record { next = next.term; r = r.term } }
