-- The words of what a cycle reads before its edge, by the points of its order: D, the carry in, F, the bits that are
-- read, and the condition.
use Rattle.std.specs.Prelude.{ℕ, ◌-◌, ◌%◌, ◌^◌, List, [], ◌∷◌, ◌++◌, map, Bool, true, false, ◌||◌, ◌==◌}
use Rattle.std.specs.Prelude.{if◌then◌else◌, slice_get, slice_index, Option, Some, None}
use Rattle.std.specs.List.{list_any}
use Rattle.mw_base.specs.Words.{num}
use Rattle.mw_alu.specs.declared.instruction.Destination.{Destination}
use Rattle.mw_alu.specs.declared.instruction.Destination.TheVariants.{Rama, Ramqd, Ramd, Ramqu, Ramu}
use Rattle.mw_alu.specs.declared.instruction.Function.{Function}
use Rattle.mw_alu.specs.declared.instruction.Function.TheVariants as functions
use Rattle.mw_alu.specs.declared.instruction.Source.{Source}
use Rattle.mw_alu.specs.declared.instruction.Source.TheVariants as operands
use Rattle.mw_alu.specs.Instruction.{source_of, function_of, destination_of}
use Rattle.mw_alu.specs.WholeWord.{is_sum}
use Rattle.mw_board.specs.declared.bit.Bit.{Bit}
use Rattle.mw_board.specs.declared.bit.Bit.TheVariants as bits
use Rattle.mw_board.specs.declared.bit.DFrom.{DFrom}
use Rattle.mw_board.specs.declared.bit.DFrom.TheVariants as sources
use Rattle.mw_board.specs.declared.bit.Load.{Load}
use Rattle.mw_board.specs.declared.bit.Load.TheVariants as loads
use Rattle.mw_board.specs.declared.parts.BoardParts.{BoardParts}
use Rattle.mw_board.specs.Depth.{depth_of}
use Rattle.mw_cycle.specs.declared.microword.Microword.{Microword}
use Rattle.mw_cycle.specs.BoardTerms.{Parts, Standing}
use Rattle.mw_cycle.specs.Boundary.{numbers}
use Rattle.mw_cycle.specs.Control.{in_field}
use Rattle.mw_cycle.specs.Cycle.{load_of}
use Rattle.mw_cycle.specs.SteadySeries.{Line, Noise, kind_of}
use Rattle.mw_term.specs.declared.op.Op.{Op}
use Rattle.mw_term.specs.declared.op.Op.TheVariants.{And, Or, Xor, Sum, Cout, Ovf, Eq, Part}
use Rattle.mw_term.specs.declared.side.Side.{Side}
use Rattle.mw_term.specs.MemoryRead.{Held}
use Rattle.mw_term.specs.WordList.{WordList, Ended, ended, with_constant, with_word, with_variable, with_input}
use Rattle.mw_term.specs.WordList.{with_complement, with_zeros_above, memory_read_words}

-- ---- D

-- D before its mask, where the board's side has these writes and so many inputs were taken
abbrev pub source_words : BoardParts → (word : ℕ) → Parts → (writes : List Held) → (taken : ℕ) → DFrom
    → WordList → Ended
source_words board word p writes taken sources.Zero l = with_constant 0 board.width l
source_words board word p writes taken sources.Memory l = memory_read_words board.width p.mar writes l
source_words board word p writes taken sources.Ir l = ended p.ir l
source_words board word p writes taken sources.Mar l = with_zeros_above board.address board.width p.mar l
source_words board word p writes taken sources.Input l = with_input taken board.width l
source_words board word p writes taken (sources.Field n) l =
    with_constant (in_field (slice_get board.fields n) word % 2 ^ board.width) board.width l
source_words board word p writes taken (sources.Flip n) l = with_zeros_above 1 board.width (slice_index p.flips n) l

-- a source behind its mask, where it has one
abbrev pub masked_words : (width : ℕ) → Option ℕ → (source : ℕ) → WordList → Ended
masked_words width None source l = ended source l
masked_words width (Some mask) source l =
    let constant = with_constant mask width l in
    with_word (And source constant.term) constant.list

-- ---- the operands, and F

-- the operand R
abbrev pub r_words : (width : ℕ) → Source → (a d : ℕ) → WordList → Ended
r_words width operands.Aq a d l = ended a l
r_words width operands.Ab a d l = ended a l
r_words width operands.Zq a d l = with_constant 0 width l
r_words width operands.Zb a d l = with_constant 0 width l
r_words width operands.Za a d l = with_constant 0 width l
r_words width operands.Da a d l = ended d l
r_words width operands.Dq a d l = ended d l
r_words width operands.Dz a d l = ended d l

-- the operand S
abbrev pub s_words : (width : ℕ) → Source → (a b q : ℕ) → WordList → Ended
s_words width operands.Aq a b q l = ended q l
s_words width operands.Ab a b q l = ended b l
s_words width operands.Zq a b q l = ended q l
s_words width operands.Zb a b q l = ended b l
s_words width operands.Za a b q l = ended a l
s_words width operands.Da a b q l = ended a l
s_words width operands.Dq a b q l = ended q l
s_words width operands.Dz a b q l = with_constant 0 width l

-- what a sum adds for R: SUBR complements it
abbrev pub first_words : Function → (r : ℕ) → WordList → Ended
first_words functions.Subr r l = with_complement r l
first_words function r l = ended r l

-- what a sum adds for S: SUBS complements it
abbrev pub second_words : Function → (s : ℕ) → WordList → Ended
second_words functions.Subs s l = with_complement s l
second_words function s l = ended s l

-- S where R has no bit
abbrev pub notrs_words : (r s : ℕ) → WordList → Ended
notrs_words r s l =
    let turned = with_complement r l in
    with_word (And turned.term s) turned.list

-- where R and S are alike
abbrev pub exnor_words : (r s : ℕ) → WordList → Ended
exnor_words r s l =
    let differing = with_word (Xor r s) l in
    with_complement differing.term differing.list

-- F of R and S, or, in a sum, of what is added for them and a carry in
abbrev pub f_words : Function → (r s first second carry : ℕ) → WordList → Ended
f_words functions.Or r s first second carry l = with_word (Or r s) l
f_words functions.And r s first second carry l = with_word (And r s) l
f_words functions.Notrs r s first second carry l = notrs_words r s l
f_words functions.Exor r s first second carry l = with_word (Xor r s) l
f_words functions.Exnor r s first second carry l = exnor_words r s l
f_words function r s first second carry l = with_word (Sum first second carry) l

-- ---- bits

-- what bits are made of: the line, the noise, the function, what a sum adds for R and S, the carry in, and F
pub record Sources : Type 0 where
  pub line : ℕ
  pub noise : ℕ
  pub function : Function
  pub first : ℕ
  pub second : ℕ
  pub carry : ℕ
  pub f : ℕ

-- a bit that was made, and its term
pub record MadeBit : Type 0 where
  pub bit : Bit
  pub term : ℕ

-- the bits of a cycle that were made so far: those that a carry in may read, and those of F
pub record Bits : Type 0 where
  pub early : List MadeBit
  pub late : List MadeBit

-- no bit was made yet
abbrev pub no_bits : Bits
no_bits = record { early = []; late = [] }

-- a list in which a bit ends at a term, and the bits that were made so far
pub record BitEnded : Type 0 where
  pub list : WordList
  pub term : ℕ
  pub bits : Bits

-- a bit that ends there, when these bits were made
abbrev pub bit_ended : Bits → Ended → BitEnded
bit_ended made e = record { list = e.list; term = e.term; bits = made }

-- two bits are one
abbrev pub same_bit : (a b : Bit) → Bool
same_bit bits.Zero bits.Zero = true
same_bit bits.One bits.One = true
same_bit bits.Carry bits.Carry = true
same_bit bits.Overflow bits.Overflow = true
same_bit bits.FZero bits.FZero = true
same_bit bits.Sign bits.Sign = true
same_bit bits.FLow bits.FLow = true
same_bit bits.FHigh bits.FHigh = true
same_bit bits.QLow bits.QLow = true
same_bit bits.QHigh bits.QHigh = true
same_bit bits.Line bits.Line = true
same_bit bits.Full bits.Full = true
same_bit (bits.Ir m) (bits.Ir n) = m == n
same_bit (bits.Flip m) (bits.Flip n) = m == n
same_bit a b = false

-- the term of a bit, where it was made
abbrev pub made_term : List MadeBit → Bit → Option ℕ
made_term [] bit = None
made_term (m ∷ rest) bit = if same_bit m.bit bit then Some m.term else made_term rest bit

-- a bit with its term, behind those that were made
abbrev pub with_made : List MadeBit → Bit → (term : ℕ) → List MadeBit
with_made made bit term = made ++ record { bit = bit; term = term } ∷ []

-- a bit that was made, or that is made now
abbrev pub made_or : Option ℕ → (make : WordList → Ended) → WordList → Ended
made_or (Some term) make l = ended term l
made_or None make l = make l

-- the bits made so far, where a bit was among them, or is made now
abbrev pub kept_or : Option ℕ → List MadeBit → Bit → (term : ℕ) → List MadeBit
kept_or (Some there) made bit term = made
kept_or None made bit term = with_made made bit term

-- a bit that a carry in may read, made where it wasn't yet
abbrev pub early_once : Bit → (make : WordList → Ended) → Bits → WordList → BitEnded
early_once bit make made l =
    let there = made_term made.early bit in
    let e = made_or there make l in
    bit_ended (record made { early = kept_or there made.early bit e.term }) e

-- a bit of F, made where it wasn't yet
abbrev pub late_once : Bit → (make : WordList → Ended) → Bits → WordList → BitEnded
late_once bit make made l =
    let there = made_term made.late bit in
    let e = made_or there make l in
    bit_ended (record made { late = kept_or there made.late bit e.term }) e

-- A bit that a carry in may read: a bit of Q or of the instruction register, the line, a flip-flop, or a constant. The
-- bits of F are 0 to it.
abbrev pub early_words : BoardParts → Parts → (sp line : ℕ) → Bit → Bits → WordList → BitEnded
early_words board p sp line bits.One made l = bit_ended made (with_constant 1 1 l)
early_words board p sp line bits.QLow made l = early_once bits.QLow (with_word (Part p.q 0 1)) made l
early_words board p sp line bits.QHigh made l = early_once bits.QHigh (with_word (Part p.q (board.width - 1) 1)) made l
early_words board p sp line bits.Line made l = bit_ended made (ended line l)
early_words board p sp line bits.Full made l = bit_ended made (with_constant (num (sp == depth_of board)) 1 l)
early_words board p sp line (bits.Ir n) made l = early_once (bits.Ir n) (with_word (Part p.ir n 1)) made l
early_words board p sp line (bits.Flip n) made l = bit_ended made (ended (slice_index p.flips n) l)
early_words board p sp line other made l = bit_ended made (with_constant 0 1 l)

-- the carry out of a sum, and of another function bit 12 of the noise
abbrev pub carry_op : Sources → Op
carry_op n = if is_sum n.function then Cout n.first n.second n.carry else Part n.noise 12 1

-- the overflow of a sum, and of another function bit 13 of the noise
abbrev pub overflow_op : Sources → Op
overflow_op n = if is_sum n.function then Ovf n.first n.second n.carry else Part n.noise 13 1

-- whether a word of so many bits is 0
abbrev pub zero_words : (width tested : ℕ) → WordList → Ended
zero_words width tested l =
    let zero = with_constant 0 width l in
    with_word (Eq tested zero.term) zero.list

-- any bit, once there is F
abbrev pub bit_words : BoardParts → Parts → (sp : ℕ) → Sources → Bit → Bits → WordList → BitEnded
bit_words board p sp n bits.Carry made l = late_once bits.Carry (with_word (carry_op n)) made l
bit_words board p sp n bits.Overflow made l = late_once bits.Overflow (with_word (overflow_op n)) made l
bit_words board p sp n bits.FZero made l = late_once bits.FZero (zero_words board.width n.f) made l
bit_words board p sp n bits.Sign made l = late_once bits.Sign (with_word (Part n.f (board.width - 1) 1)) made l
bit_words board p sp n bits.FLow made l = late_once bits.FLow (with_word (Part n.f 0 1)) made l
bit_words board p sp n bits.FHigh made l = late_once bits.FHigh (with_word (Part n.f (board.width - 1) 1)) made l
bit_words board p sp n other made l = early_words board p sp n.line other made l

-- ---- the bits that are read

-- a load reads a bit
abbrev pub load_reads : Load → Bit → Bool
load_reads (loads.Take taken) bit = same_bit taken bit
load_reads loads.XorCarry bit = same_bit bit bits.Carry
load_reads load bit = false

-- a link that the destination uses reads a bit
abbrev pub link_reads : Destination → Microword → Bit → Bool
link_reads Ramqd m bit = same_bit m.ram_link bit || same_bit m.q_link bit
link_reads Ramqu m bit = same_bit m.ram_link bit || same_bit m.q_link bit
link_reads Ramd m bit = same_bit m.ram_link bit
link_reads Ramu m bit = same_bit m.ram_link bit
link_reads other m bit = false

-- the condition, a link that is used, or the chosen load of a flip-flop reads a bit
abbrev pub is_read : BoardParts → Microword → Bit → Bool
is_read board m bit = same_bit m.condition bit || (link_reads (destination_of m.instruction) m bit
    || list_any (λ f. load_reads (load_of board m f) bit) board.flipflop)

-- the bits of F and Q, in the order of a board's lists
abbrev pub bits_of_words : List Bit
bits_of_words =
    bits.Carry ∷ bits.Overflow ∷ bits.FZero ∷ bits.Sign ∷ bits.FLow ∷ bits.FHigh ∷ bits.QLow ∷ bits.QHigh ∷ []

-- all bits that make words, in that order: those of the instruction register are the last, by rising numbers
abbrev pub bits_in_order : BoardParts → List Bit
bits_in_order board = bits_of_words ++ map bits.Ir (numbers 0 board.width)

-- a list, and the bits made so far
pub record BitsMade : Type 0 where
  pub list : WordList
  pub bits : Bits

-- what there is after a bit
abbrev pub made_by : BitEnded → BitsMade
made_by e = record { list = e.list; bits = e.bits }

-- a bit, where it is read
abbrev pub read_words : BoardParts → Microword → Parts → (sp : ℕ) → Sources → Bit → BitsMade → BitsMade
read_words board m p sp n bit b =
    if is_read board m bit then made_by (bit_words board p sp n bit b.bits b.list) else b

-- each of some bits, where it is read
abbrev pub all_read_words : BoardParts → Microword → Parts → (sp : ℕ) → Sources → List Bit → BitsMade → BitsMade
all_read_words board m p sp n [] b = b
all_read_words board m p sp n (bit ∷ rest) b =
    all_read_words board m p sp n rest (read_words board m p sp n bit b)

-- ---- the whole

-- a bit turned over where polarity is 1
abbrev pub turned_words : (polarity : Bool) → (bit : ℕ) → WordList → Ended
turned_words true bit l = with_complement bit l
turned_words false bit l = ended bit l

-- Y is A in RAMA, and else F
abbrev pub y_term : Destination → (a f : ℕ) → ℕ
y_term Rama a f = a
y_term other a f = f

-- What a cycle has read before its edge: what bits are made of, those that were made, D before its mask, Y, and the
-- condition.
pub record Reading : Type 0 where
  pub sources : Sources
  pub bits : Bits
  pub source : ℕ
  pub y : ℕ
  pub condition : ℕ

-- a list, and what a cycle has read in it
pub record HasRead : Type 0 where
  pub list : WordList
  pub reading : Reading

-- a list, what bits are made of, and those that were made
pub record SourcesMade : Type 0 where
  pub list : WordList
  pub sources : Sources
  pub bits : Bits

-- the operands R and S
pub record Operands : Type 0 where
  pub list : WordList
  pub r : ℕ
  pub s : ℕ

-- the operands that the instruction chooses
abbrev pub operands_words : BoardParts → Microword → Parts → (d : ℕ) → WordList → Operands
operands_words board m p d l =
    let a = slice_index p.regs m.a_address in
    let b = slice_index p.regs m.b_address in
    let r = r_words board.width (source_of m.instruction) a d l in
    let s = s_words board.width (source_of m.instruction) a b p.q r.list in
    record { list = s.list; r = r.term; s = s.term }

-- what a sum adds for two operands
abbrev pub addends_words : Function → (r s : ℕ) → WordList → Operands
addends_words function r s l =
    let first = first_words function r l in
    let second = second_words function s first.list in
    record { list = second.list; r = first.term; s = second.term }

-- the carry in, the operands, what a sum adds for them, and F
abbrev pub sources_words : BoardParts → Microword → Parts → (sp line noise d : ℕ) → WordList → SourcesMade
sources_words board m p sp line noise d l =
    let function = function_of m.instruction in
    let carry = early_words board p sp line m.carry_in no_bits l in
    let operands = operands_words board m p d carry.list in
    let addends = addends_words function operands.r operands.s operands.list in
    let f = f_words function operands.r operands.s addends.r addends.s carry.term addends.list in
    record {
      list = f.list;
      sources = record {
        line = line;
        noise = noise;
        function = function;
        first = addends.r;
        second = addends.s;
        carry = carry.term;
        f = f.term;
      };
      bits = carry.bits;
    }

-- the condition, turned over where polarity is 1
abbrev pub condition_words : BoardParts → Microword → Parts → (sp : ℕ) → Sources → BitsMade → BitEnded
condition_words board m p sp n b =
    let bit = bit_words board p sp n m.condition b.bits b.list in
    bit_ended bit.bits (turned_words m.polarity bit.term bit.list)

-- the term of a cycle's line: the one that is there already, or else a variable
abbrev pub line_words : Side → (cycle : ℕ) → Option ℕ → WordList → Ended
line_words side cycle line l = made_or line (with_variable (kind_of side Line cycle) 1) l

-- The words that a cycle reads before its edge: the variables of its line, where that isn't there already, and of its
-- noise, D, what F is made of, the bits that are read, each once, in the order of a board's lists, and the condition.
unfoldable pub reading_words : BoardParts → Microword → Standing → WordList → HasRead
reading_words board m s l =
    let line = line_words s.side s.cycle s.line l in
    let noise = with_variable (kind_of s.side Noise s.cycle) 14 line.list in
    let source = source_words board m.word s.parts s.writes s.taken m.d.from noise.list in
    let d = masked_words board.width m.d.mask source.term source.list in
    let made = sources_words board m s.parts s.sp line.term noise.term d.term d.list in
    let read = all_read_words board m s.parts s.sp made.sources (bits_in_order board)
    (record { list = made.list; bits = made.bits }) in
    let condition = condition_words board m s.parts s.sp made.sources read in
    record {
      list = condition.list;
      reading = record {
        sources = made.sources;
        bits = condition.bits;
        source = source.term;
        y = y_term (destination_of m.instruction) (slice_index s.parts.regs m.a_address) made.sources.f;
        condition = condition.term;
      };
    }
