-- One cycle of a board (Mick and Brick: one pipeline register), in the seven points of its order. All that is read is
-- read before the edge.
use Rattle.std.specs.Prelude.{ℕ, ◌+◌, ◌-◌, ◌*◌, ◌%◌, ◌^◌, List, [], ◌∷◌, Bool, true, false, not, if◌then◌else◌}
use Rattle.std.specs.Prelude.{◌||◌, ◌&&◌, slice_get, slice_index, slice_set, bit_and, Option, Some, None}
use Rattle.mw_base.specs.Words.{bit_of, differ, num, part}
use Rattle.mw_base.specs.declared.event.Event.{Event}
use Rattle.mw_base.specs.declared.event.Event.TheVariants.{Out, Taken}
use Rattle.mw_alu.specs.declared.answer.AluOut.{AluOut}
use Rattle.mw_alu.specs.declared.edge.Pins.{Pins}
use Rattle.mw_alu.specs.declared.edge.ShiftOut.{ShiftOut}
use Rattle.mw_alu.specs.WholeWord.{alu_of, shift_of}
use Rattle.mw_seq.specs.declared.instruction.Instruction.{Instruction}
use Rattle.mw_seq.specs.declared.instruction.Instruction.TheVariants.{Jmap, Cjv}
use Rattle.mw_seq.specs.Instruction.{instruction_of}
use Rattle.mw_seq.specs.Sequencer.{is_full, next_of, step_of}
use Rattle.mw_board.specs.declared.bit.Bit.{Bit}
use Rattle.mw_board.specs.declared.bit.Bit.TheVariants.{One, Carry, Overflow, FZero, Sign, FLow, FHigh, QLow, QHigh}
use Rattle.mw_board.specs.declared.bit.Bit.TheVariants.{Line, Full, Ir, Flip}
use Rattle.mw_board.specs.declared.bit.DFrom.{DFrom}
use Rattle.mw_board.specs.declared.bit.DFrom.TheVariants as sources
use Rattle.mw_board.specs.declared.bit.Load.{Load}
use Rattle.mw_board.specs.declared.bit.Load.TheVariants as loads
use Rattle.mw_board.specs.declared.flipflop.FlipFlop.{FlipFlop}
use Rattle.mw_board.specs.declared.parts.BoardParts.{BoardParts}
use Rattle.mw_board.specs.Depth.{depth_of}
use Rattle.mw_board.specs.Store.{word_at}
use Rattle.mw_cycle.specs.declared.microword.Microword.{Microword}
use Rattle.mw_cycle.specs.declared.one_cycle.Operands.{Operands}
use Rattle.mw_cycle.specs.declared.state.CycleIn.{CycleIn}
use Rattle.mw_cycle.specs.declared.state.Nets.{Nets}
use Rattle.mw_cycle.specs.Control.{in_field, value_at, chosen}
use Rattle.mw_cycle.specs.Microword.{points_of}
use Rattle.mw_cycle.specs.State.{BoardState}

-- 1. The microword is the store's at the control address, or the fill word past the last assembled one, decoded.
abbrev pub microword_at : BoardParts → List ℕ → BoardState → Microword
microword_at board store s = points_of board (word_at board store s.at)

-- 2. D is the chosen source: the memory reads at mar, and a field gives its low bits of the width.
unfoldable pub from_source : BoardParts → ℕ → DFrom → BoardState → CycleIn → ℕ
from_source board word sources.Zero s given = 0
from_source board word sources.Memory s given = slice_index s.memory s.mar
from_source board word sources.Ir s given = s.ir
from_source board word sources.Mar s given = s.mar
from_source board word sources.Input s given = given.input
from_source board word (sources.Field n) s given = in_field (slice_get board.fields n) word % 2 ^ board.width
from_source board word (sources.Flip n) s given = num (bit_of s.flips n)

-- a source is seen through its mask, where it has one
abbrev pub masked : Option ℕ → ℕ → ℕ
masked None d = d
masked (Some mask) d = bit_and d mask

-- D: the source that the microword chooses, behind its mask
abbrev pub d_of : BoardParts → Microword → BoardState → CycleIn → ℕ
d_of board m s given = masked m.d.mask (from_source board m.word m.d.from s given)

-- The bits that stand before F is made. A carry in chooses among these; the bits of F are false to it.
unfoldable pub early_bit : BoardParts → Bit → BoardState → CycleIn → Bool
early_bit board One s given = true
early_bit board QLow s given = bit_of s.q 0
early_bit board QHigh s given = bit_of s.q (board.width - 1)
early_bit board Line s given = given.line
early_bit board Full s given = is_full (depth_of board) s.seq
early_bit board (Ir n) s given = bit_of s.ir n
early_bit board (Flip n) s given = bit_of s.flips n
early_bit board other s given = false

-- 3. A, B, D and the carry in are read; F, the flags and Y follow.
unfoldable pub operands_of : BoardParts → Microword → BoardState → CycleIn → Operands
operands_of board m s given = record {
  a = slice_index s.regs m.a_address;
  b = slice_index s.regs m.b_address;
  d = d_of board m s given;
  cin = early_bit board m.carry_in s given;
}

-- F, the flags and Y of those operands
unfoldable pub answer_of : BoardParts → Microword → BoardState → CycleIn → AluOut
answer_of board m s given =
    let operands = operands_of board m s given in
    alu_of board.width m.instruction operands.a operands.b s.q operands.d operands.cin

-- an undefined carry is bit 12 of the noise
abbrev pub carry_net : AluOut → CycleIn → Bool
carry_net answer given = if answer.defined then answer.carry else bit_of given.noise 12

-- an undefined overflow is bit 13 of the noise
abbrev pub overflow_net : AluOut → CycleIn → Bool
overflow_net answer given = if answer.defined then answer.overflow else bit_of given.noise 13

-- every bit, once F is made
unfoldable pub bit_value : BoardParts → Bit → AluOut → BoardState → CycleIn → Bool
bit_value board Carry answer s given = carry_net answer given
bit_value board Overflow answer s given = overflow_net answer given
bit_value board FZero answer s given = answer.zero
bit_value board Sign answer s given = answer.sign
bit_value board FLow answer s given = bit_of answer.f 0
bit_value board FHigh answer s given = bit_of answer.f (board.width - 1)
bit_value board other answer s given = early_bit board other s given

-- 4. The condition, turned over where polarity is 1, gives pass, and so does a disabled test.
unfoldable pub pass_of : BoardParts → Microword → AluOut → BoardState → CycleIn → Bool
pass_of board m answer s given = m.test_disable || differ m.polarity (bit_value board m.condition answer s given)

-- what the map gives for the old instruction register; without bits it has no entries, and gives 0
abbrev pub map_of : BoardParts → BoardState → ℕ
map_of board s = slice_index board.map_entries (part board.map_low board.map_bits s.ir)

-- the address at the Am2910's D: by the map in JMAP and the vector in CJV, else the branch field
abbrev pub direct_for : Instruction → BoardParts → Microword → BoardState → ℕ
direct_for Jmap board m s = map_of board s
direct_for Cjv board m s = board.vector
direct_for other board m s = m.branch

-- what stands at the sequencer's direct input
unfoldable pub direct_address : BoardParts → Microword → BoardState → ℕ
direct_address board m s = direct_for (instruction_of m.sequencer) board m s

-- 5. The sequencer gives the next address.
unfoldable pub next_address : BoardParts → Microword → Bool → BoardState → CycleIn → ℕ
next_address board m pass s given = next_of m.sequencer pass (direct_address board m s) given.noise s.seq

-- the pins: the chosen bit stands at both ends of a shift
unfoldable pub pins_of : BoardParts → Microword → AluOut → BoardState → CycleIn → Pins
pins_of board m answer s given = record {
  ram_high = bit_value board m.ram_link answer s given;
  ram_low = bit_value board m.ram_link answer s given;
  q_high = bit_value board m.q_link answer s given;
  q_low = bit_value board m.q_link answer s given;
}

-- what the Am2901 writes
unfoldable pub writes_of : BoardParts → Microword → AluOut → BoardState → CycleIn → ShiftOut
writes_of board m answer s given = shift_of board.width m.instruction answer.f s.q (pins_of board m answer s given)

-- what a flip-flop takes, whose value was this
abbrev pub loaded : BoardParts → Load → Bool → AluOut → BoardState → CycleIn → Bool
loaded board loads.Hold old answer s given = old
loaded board loads.Invert old answer s given = not old
loaded board loads.XorCarry old answer s given = differ old (carry_net answer given)
loaded board (loads.Take bit) old answer s given = bit_value board bit answer s given

-- which of its loads a flip-flop's control chooses
abbrev pub load_of : BoardParts → Microword → FlipFlop → Load
load_of board m f = chosen loads.Hold f.load (value_at board.fields m.word f.control)

-- what flip-flop n takes
abbrev pub flip_of : BoardParts → Microword → ℕ → FlipFlop → AluOut → BoardState → CycleIn → Bool
flip_of board m n f answer s given = loaded board (load_of board m f) (bit_of s.flips n) answer s given

-- the flip-flops from flip-flop n on, which is the lowest bit; each takes what it does from the old values of all
unfoldable pub flips_from : BoardParts → Microword → AluOut → BoardState → CycleIn → ℕ → List FlipFlop → ℕ
flips_from board m answer s given n [] = 0
flips_from board m answer s given n (f ∷ rest) =
    num (flip_of board m n f answer s given) + 2 * flips_from board m answer s given (n + 1) rest

-- all flip-flops after the edge
abbrev pub flips_after : BoardParts → Microword → AluOut → BoardState → CycleIn → ℕ
flips_after board m answer s given = flips_from board m answer s given 0 board.flipflop

-- 6. The edge: registers, Q, mar, ir, flip-flops, memory, the sequencer and the control address take their new values.
unfoldable pub edge : BoardParts → Microword → AluOut → Bool → BoardState → CycleIn → BoardState
edge board m answer pass s given =
    let writes = writes_of board m answer s given in
    record {
      at = next_address board m pass s given;
      regs = if writes.write_b then slice_set s.regs m.b_address writes.b else s.regs;
      q = if writes.write_q then writes.q else s.q;
      mar = if m.mar_load then answer.y % 2 ^ board.address else s.mar;
      ir = if m.ir_load then answer.y else s.ir;
      flips = flips_after board m answer s given;
      seq = step_of (depth_of board) m.sequencer pass (direct_address board m s) m.ci m.rld given.noise s.seq;
      memory = if m.memory_write then slice_set s.memory s.mar answer.y else s.memory;
    }

-- 7. A cycle whose D is the input takes the offered word, whatever its mask; another that puts out shows Y; the rest
--    show nothing.
abbrev pub event_from : DFrom → Bool → ℕ → CycleIn → Option Event
event_from sources.Input out y given = Some (Taken given.input)
event_from _ out y given = if out then Some (Out y) else None

-- what a microword shows of its cycle
abbrev pub event_of : Microword → ℕ → CycleIn → Option Event
event_of m y given = event_from m.d.from m.out y given

-- the state after a cycle
unfoldable pub state_after : BoardParts → List ℕ → BoardState → CycleIn → BoardState
state_after board store s given =
    let m = microword_at board store s in
    let answer = answer_of board m s given in
    edge board m answer (pass_of board m answer s given) s given

-- the values that a cycle reads and makes
unfoldable pub nets_of : BoardParts → List ℕ → BoardState → CycleIn → Nets
nets_of board store s given =
    let m = microword_at board store s in
    let operands = operands_of board m s given in
    let answer = answer_of board m s given in
    let pass = pass_of board m answer s given in
    record {
      word = word_at board store s.at;
      a = operands.a;
      b = operands.b;
      d = operands.d;
      f = answer.f;
      y = answer.y;
      cin = operands.cin;
      carry = carry_net answer given;
      overflow = overflow_net answer given;
      zero = answer.zero;
      sign = answer.sign;
      pass = pass;
      next = next_address board m pass s given;
      event = event_of m answer.y given;
    }

-- ---- clocks that wait

-- the source is the memory
abbrev pub is_memory : DFrom → Bool
is_memory sources.Memory = true
is_memory other = false

-- a microword uses memory: its D source is the memory, or it writes there
abbrev pub uses_memory : Microword → Bool
uses_memory m = is_memory m.d.from || m.memory_write

-- a clock in a state is a wait: its wait bit is 1, and the word there uses memory
abbrev pub waits_in : BoardParts → List ℕ → BoardState → (wait : Bool) → Bool
waits_in board store state wait = wait && uses_memory (microword_at board store state)
