-- The words of the edge, and where a board then is.
use Rattle.std.specs.Prelude.{ℕ, ◌+◌, ◌-◌, ◌%◌, ◌^◌, List, [], ◌∷◌, ◌++◌, Bool, true, false, nat_lt, if◌then◌else◌}
use Rattle.std.specs.Prelude.{slice_set, Option, Some, None}
use Rattle.mw_base.specs.Words.{num}
use Rattle.mw_alu.specs.declared.instruction.Destination.{Destination}
use Rattle.mw_alu.specs.declared.instruction.Destination.TheVariants as destinations
use Rattle.mw_alu.specs.Instruction.{destination_of}
use Rattle.mw_board.specs.declared.bit.Bit.{Bit}
use Rattle.mw_board.specs.declared.bit.Bit.TheVariants.{Carry}
use Rattle.mw_board.specs.declared.bit.DFrom.{DFrom}
use Rattle.mw_board.specs.declared.bit.DFrom.TheVariants as sources
use Rattle.mw_board.specs.declared.bit.Load.{Load}
use Rattle.mw_board.specs.declared.bit.Load.TheVariants as loads
use Rattle.mw_board.specs.declared.flipflop.FlipFlop.{FlipFlop}
use Rattle.mw_board.specs.declared.parts.BoardParts.{BoardParts}
use Rattle.mw_board.specs.Depth.{depth_of}
use Rattle.mw_cycle.specs.declared.microword.Microword.{Microword}
use Rattle.mw_cycle.specs.BoardTerms.{Parts, Standing}
use Rattle.mw_cycle.specs.Cycle.{load_of}
use Rattle.mw_cycle.specs.LeavingWords.{Leaving}
use Rattle.mw_cycle.specs.ReadingWords.{Bits, BitEnded, BitsMade, Reading, Sources, bit_ended, bit_words}
use Rattle.mw_seq.specs.declared.instruction.Effect.{Effect}
use Rattle.mw_seq.specs.declared.instruction.StackMove.{StackMove}
use Rattle.mw_seq.specs.declared.instruction.StackMove.TheVariants as moves
use Rattle.mw_term.specs.declared.event.SymEvent.{SymEvent}
use Rattle.mw_term.specs.declared.event.SymEvent.TheVariants.{Out, Taken}
use Rattle.mw_term.specs.declared.op.Op.TheVariants.{Xor, Part, Join}
use Rattle.mw_term.specs.MemoryRead.{Held, held}
use Rattle.mw_term.specs.WordList.{WordList, Ended, ended, with_constant, with_word, with_complement, with_part}

-- ---- shifts

-- a word shifted down, with a bit at its top
abbrev pub down_words : (width word high : ℕ) → WordList → Ended
down_words width word high l =
    let rest = with_word (Part word 1 (width - 1)) l in
    with_word (Join high rest.term) rest.list

-- a word shifted up, with a bit at its bottom
abbrev pub up_words : (width word low : ℕ) → WordList → Ended
up_words width word low l =
    let rest = with_word (Part word 0 (width - 1)) l in
    with_word (Join rest.term low) rest.list

-- a list, the bits that were made, and what there is to take, if there is anything
pub record Takes : Type 0 where
  pub list : WordList
  pub bits : Bits
  pub taken : Option ℕ

-- nothing is taken
abbrev pub takes_nothing : BitsMade → Takes
takes_nothing b = record { list = b.list; bits = b.bits; taken = None }

-- a term is taken
abbrev pub takes : BitEnded → Takes
takes e = record { list = e.list; bits = e.bits; taken = Some e.term }

-- a term that there is already is taken
abbrev pub takes_term : (term : ℕ) → BitsMade → Takes
takes_term term b = record { list = b.list; bits = b.bits; taken = Some term }

-- a word shifted down, with the bit of a link at its top
abbrev pub linked_down_words : BoardParts → Parts → (sp : ℕ) → Sources → (link : Bit) → (word : ℕ) → BitsMade → Takes
linked_down_words board p sp n link word b =
    let high = bit_words board p sp n link b.bits b.list in
    takes (bit_ended high.bits (down_words board.width word high.term high.list))

-- a word shifted up, with the bit of a link at its bottom
abbrev pub linked_up_words : BoardParts → Parts → (sp : ℕ) → Sources → (link : Bit) → (word : ℕ) → BitsMade → Takes
linked_up_words board p sp n link word b =
    let low = bit_words board p sp n link b.bits b.list in
    takes (bit_ended low.bits (up_words board.width word low.term low.list))

-- what the register that B addresses takes
abbrev pub register_words : Destination → BoardParts → Microword → Parts → (sp : ℕ) → Sources → BitsMade → Takes
register_words destinations.Qreg board m p sp n b = takes_nothing b
register_words destinations.Nop board m p sp n b = takes_nothing b
register_words destinations.Rama board m p sp n b = takes_term n.f b
register_words destinations.Ramf board m p sp n b = takes_term n.f b
register_words destinations.Ramqd board m p sp n b = linked_down_words board p sp n m.ram_link n.f b
register_words destinations.Ramd board m p sp n b = linked_down_words board p sp n m.ram_link n.f b
register_words destinations.Ramqu board m p sp n b = linked_up_words board p sp n m.ram_link n.f b
register_words destinations.Ramu board m p sp n b = linked_up_words board p sp n m.ram_link n.f b

-- what Q takes
abbrev pub q_words : Destination → BoardParts → Microword → Parts → (sp : ℕ) → Sources → BitsMade → Takes
q_words destinations.Qreg board m p sp n b = takes_term n.f b
q_words destinations.Ramqd board m p sp n b = linked_down_words board p sp n m.q_link p.q b
q_words destinations.Ramqu board m p sp n b = linked_up_words board p sp n m.q_link p.q b
q_words other board m p sp n b = takes_nothing b

-- ---- flip-flops

-- the old value turned over where there is a carry
abbrev pub turned_by_carry_words : BoardParts → Parts → (sp : ℕ) → Sources → (old : ℕ) → BitsMade → BitEnded
turned_by_carry_words board p sp n old b =
    let carry = bit_words board p sp n Carry b.bits b.list in
    bit_ended carry.bits (with_word (Xor old carry.term) carry.list)

-- what a flip-flop takes, by its load
abbrev pub loaded_words : Load → BoardParts → Parts → (sp : ℕ) → Sources → (old : ℕ) → BitsMade → BitEnded
loaded_words loads.Hold board p sp n old b = bit_ended b.bits (ended old b.list)
loaded_words loads.Invert board p sp n old b = bit_ended b.bits (with_complement old b.list)
loaded_words loads.XorCarry board p sp n old b = turned_by_carry_words board p sp n old b
loaded_words (loads.Take bit) board p sp n old b = bit_words board p sp n bit b.bits b.list

-- a list, the bits that were made, and the terms of the flip-flops so far
pub record Loaded : Type 0 where
  pub list : WordList
  pub bits : Bits
  pub flips : List ℕ

-- with a flip-flop more
abbrev pub with_flip : List ℕ → BitEnded → Loaded
with_flip flips e = record { list = e.list; bits = e.bits; flips = flips ++ e.term ∷ [] }

-- what some flip-flops take, whose old values these are, behind those before them
abbrev pub flips_words : BoardParts → Microword → Parts → (sp : ℕ) → Sources → List FlipFlop → (old : List ℕ)
    → Loaded → Loaded
flips_words board m p sp n [] old so_far = so_far
flips_words board m p sp n (f ∷ rest) [] so_far = so_far
flips_words board m p sp n (f ∷ rest) (value ∷ old) so_far =
    flips_words board m p sp n rest old
    (with_flip so_far.flips (loaded_words (load_of board m f) board p sp n value
    (record { list = so_far.list; bits = so_far.bits })))

-- ---- the edge

-- the address register after the edge: the low bits of Y where it is loaded
abbrev pub mar_words : (load : Bool) → BoardParts → (old y : ℕ) → WordList → Ended
mar_words true board old y l = with_part board.width y 0 board.address l
mar_words false board old y l = ended old l

-- the stack pointer after a move
abbrev pub sp_after : StackMove → (depth sp : ℕ) → ℕ
sp_after moves.Held depth sp = sp
sp_after moves.Pushed depth sp = if nat_lt sp depth then sp + 1 else sp
sp_after moves.Popped depth sp = sp - 1
sp_after moves.Cleared depth sp = 0

-- the word of the stack that takes PC, if one does
abbrev pub pushed_word : StackMove → (depth sp : ℕ) → Option ℕ
pushed_word moves.Pushed depth sp = Some (if nat_lt sp depth then sp else depth - 1)
pushed_word move depth sp = None

-- a list in which an item takes what there is to take
abbrev pub with_taken : List ℕ → (place : ℕ) → Option ℕ → List ℕ
with_taken items place None = items
with_taken items place (Some taken) = slice_set items place taken

-- an item that takes what there is to take
abbrev pub or_taken : (old : ℕ) → Option ℕ → ℕ
or_taken old None = old
or_taken old (Some taken) = taken

-- a list in which the item of a place, if there is one, takes this
abbrev pub with_pushed : List ℕ → Option ℕ → (taken : ℕ) → List ℕ
with_pushed items None taken = items
with_pushed items (Some place) taken = slice_set items place taken

-- the event of a cycle whose D before its mask is one term and whose Y is another: an input that is taken
-- hides an output
abbrev pub shown : DFrom → (out : Bool) → (source y : ℕ) → List SymEvent
shown sources.Input out source y = Taken source ∷ []
shown from true source y = Out y ∷ []
shown from false source y = []

-- how many inputs were taken after a cycle
abbrev pub taken_after : DFrom → (taken : ℕ) → ℕ
taken_after sources.Input taken = taken + 1
taken_after from taken = taken

-- the writes with one more, where there is one
abbrev pub with_write_if : Bool → (address value : ℕ) → List Held → List Held
with_write_if true address value writes = writes ++ held address value ∷ []
with_write_if false address value writes = writes

-- a list, and what the parts take at the edge that is made by words
pub record Made : Type 0 where
  pub list : WordList
  pub register : Option ℕ
  pub q : Option ℕ
  pub flips : List ℕ
  pub mar : ℕ

-- what the parts take: the register that B addresses before Q, then the flip-flops, then the address register
abbrev pub edge_made : BoardParts → Microword → Parts → (sp : ℕ) → Reading → WordList → Made
edge_made board m p sp reading l =
    let n = reading.sources in
    let register = register_words (destination_of m.instruction) board m p sp n (record {
      list = l;
      bits = reading.bits;
    }) in
    let q = q_words (destination_of m.instruction) board m p sp n (record {
      list = register.list;
      bits = register.bits;
    }) in
    let loaded = flips_words board m p sp n board.flipflop p.flips (record {
      list = q.list;
      bits = q.bits;
      flips = [];
    }) in
    let mar = mar_words m.mar_load board p.mar reading.y loaded.list in
    record { list = mar.list; register = register.taken; q = q.taken; flips = loaded.flips; mar = mar.term }

-- the parts with what they take, with PC and a counter, where PC goes onto the stack by a move
abbrev pub parts_after : BoardParts → Microword → Parts → (sp : ℕ) → Made → (y pc r : ℕ) → StackMove → Parts
parts_after board m p sp made y pc r stack = record {
  regs = with_taken p.regs m.b_address made.register;
  q = or_taken p.q made.q;
  mar = made.mar;
  ir = if m.ir_load then y else p.ir;
  flips = made.flips;
  pc = pc;
  r = r;
  stack = with_pushed p.stack (pushed_word stack (depth_of board) sp) p.pc;
}

-- a list, and where a board is in it
pub record Stands : Type 0 where
  pub list : WordList
  pub standing : Standing

-- The words of the edge, and where the board then is: at an address, by the entry of the Am2910's table. PC
-- is a constant.
unfoldable pub edge_words : BoardParts → Microword → Standing → Reading → Leaving → Effect → (next : ℕ)
    → WordList → Stands
edge_words board m s reading leaving effect next l =
    let made = edge_made board m s.parts s.sp reading l in
    let pc = with_constant ((next + num m.ci) % 2 ^ 12) 12 made.list in
    record {
      list = pc.list;
      standing = record {
        side = s.side;
        at = next;
        sp = sp_after effect.stack (depth_of board) s.sp;
        parts = parts_after board m s.parts s.sp made reading.y pc.term leaving.r effect.stack;
        writes = with_write_if m.memory_write s.parts.mar reading.y s.writes;
        events = s.events ++ shown m.d.from m.out reading.source reading.y;
        cycle = s.cycle + 1;
        taken = taken_after m.d.from s.taken;
        line = None;
      };
    }
