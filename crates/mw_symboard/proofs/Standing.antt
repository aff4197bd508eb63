-- What the terms of a cycle are made of stays so in a table with more terms.
use Rattle.std.proofs.Common.{◌≡◌, inl, inr, ℕ, ◌-◌, ◌<◌, ◌%◌, ◌^◌, List, [], ◌∷◌, ◌++◌, length, slice_index, Bool}
use Rattle.std.proofs.Common.{true, false, ◌==◌, Option, Some, None}
use Rattle.std.specs.Prelude.{slice_get, if◌then◌else◌}
use Rattle.mw_base.specs.Words.{num}
use Rattle.mw_alu.specs.declared.instruction.Destination.{Destination}
use Rattle.mw_alu.specs.declared.instruction.Destination.TheVariants as destinations
use Rattle.mw_alu.specs.declared.instruction.Function.{Function}
use Rattle.mw_alu.specs.declared.instruction.Function.TheVariants as functions
use Rattle.mw_alu.specs.declared.instruction.Source.{Source}
use Rattle.mw_alu.specs.declared.instruction.Source.TheVariants as operands
use Rattle.mw_board.specs.declared.bit.Bit.{Bit}
use Rattle.mw_board.specs.declared.bit.Bit.TheVariants as bits
use Rattle.mw_board.specs.declared.bit.DFrom.{DFrom}
use Rattle.mw_board.specs.declared.bit.DFrom.TheVariants as sources
use Rattle.mw_board.specs.declared.bit.Load.{Load}
use Rattle.mw_board.specs.declared.bit.Load.TheVariants as loads
use Rattle.mw_board.specs.declared.parts.BoardParts.{BoardParts}
use Rattle.mw_board.specs.Depth.{depth_of}
use Rattle.mw_cycle.specs.declared.microword.Microword.{Microword}
use Rattle.mw_cycle.specs.Control.{in_field}
use Rattle.mw_cycle.specs.Cycle.{load_of}
use Rattle.mw_cycle.specs.Elements.{bits_of}
use Rattle.mw_seq.specs.declared.instruction.AddressFrom.{AddressFrom}
use Rattle.mw_seq.specs.declared.instruction.AddressFrom.TheVariants as addresses
use Rattle.mw_seq.specs.declared.instruction.Instruction.{Instruction}
use Rattle.mw_seq.specs.declared.instruction.Instruction.TheVariants.{Jmap, Cjv}
use Rattle.mw_term.specs.declared.kinds.WordKind.{WordKind}
use Rattle.mw_term.specs.declared.kinds.WordKind.TheVariants.{Input}
use Rattle.mw_term.specs.declared.op.Op.TheVariants.{Con, Not, And, Or, Xor, Sum, Eq, Part, Join, Tab}
use Rattle.mw_term.specs.Table.{Table, Extends}
use Rattle.mw_term.specs.Values.{Keeps}
use Rattle.mw_term.specs.declared.side.Side.{Side}
use Rattle.mw_term.specs.declared.word.Word.{Word}
use Rattle.mw_symmem.specs.Memory.{Memory, IsMemory}
use Rattle.mw_term.specs.WordList.{is_of, term_of}
use Rattle.mw_symmem.specs.Workspace.{IsLater, KeepsWrites, ReadsMore}
use Rattle.mw_symmem.proofs.Growth.{width_stays, op_stays}
use Rattle.mw_symmem.proofs.Later.{reads_stay}
use Rattle.mw_cycle.specs.ReadingWords.{MadeBit, Bits, carry_op, overflow_op}
use Rattle.mw_symboard.specs.declared.bits.Sources.{Sources}
use Rattle.mw_symboard.specs.Bits.{AreBits, AreEarlyBits, AreLateBits, AreSources}
use Rattle.mw_symboard.specs.Made.{IsWidened, IsPart, IsFrom, IsMasked, IsR, IsS, IsAddendR, IsAddendS, IsF, IsEarlyBit}
use Rattle.mw_symboard.specs.Made.{IsBitTerm, IsEntry, IsDirect, IsTop, IsNext, IsLessOne, IsDown, IsUp, IsShiftedDown}
use Rattle.mw_symboard.specs.Made.{IsShiftedUp, IsWrittenB, IsWrittenQ, IsLoaded, AreLoaded, sources_of}
use Rattle.mw_symboard.specs.Parts.{AreParts}
use Rattle.mw_cycle.specs.BoardTerms.{Parts, term_of_part}

-- ---- one term

pub widened_stays : (told tnew : Table) (from to narrow term : ℕ)
    → Extends told tnew → IsWidened told from to narrow term → IsWidened tnew from to narrow term
widened_stays told tnew from to narrow term extends is = elim is [
  | inl same ↦ inl same
  | inr made ↦ inr (
    made.0,
    op_stays told tnew made.0 (Con 0 (to - from)) extends made.1,
    op_stays told tnew term (Join made.0 narrow) extends made.2,
  )
]

pub part_stays : (told tnew : Table) (whole_width whole low width term : ℕ) → Extends told tnew
    → IsPart told whole_width whole low width term → IsPart tnew whole_width whole low width term
part_stays told tnew whole_width whole low width term extends is = elim is [
  | inl same ↦ inl same
  | inr made ↦ inr (op_stays told tnew term (Part whole low width) extends made)
]

-- ---- D

found_first : (b : Bool) (a term : ℕ) (rest more : Option ℕ) → (rest ≡ Some term → more ≡ Some term)
    → (if b then Some a else rest) ≡ Some term → (if b then Some a else more) ≡ Some term
found_first true a term rest more later is = is
found_first false a term rest more later is = later is

-- a variable is found still where there are words behind it
pub found_stays : (words more : List Word) (kind : WordKind) (term : ℕ) → term_of words kind ≡ Some term
    → term_of (words ++ more) kind ≡ Some term
found_stays [] more kind term is = absurd cc
found_stays (w ∷ words) more kind term is =
    found_first (is_of w.kind kind) w.term term (term_of words kind) (term_of (words ++ more) kind)
    (found_stays words more kind term) is

pub from_stays : (board : BoardParts) (word : ℕ) (told tnew : Table) (wold more : List Word) (mold mnew : Memory)
    (side : Side) (p : Parts) (taken : ℕ) (from : DFrom) (term : ℕ) → IsLater told tnew → IsMemory told wold mold
    → ReadsMore mold mnew → KeepsWrites mold mnew → p.mar < length told.ops → term < length told.ops
    → IsFrom board word told wold mold side p taken from term
    → IsFrom board word tnew (wold ++ more) mnew side p taken from term
from_stays board word told tnew wold more mold mnew side p taken sources.Zero term later
    memory reads writes mar there is =
    op_stays told tnew term (Con 0 board.width) later.extends is
from_stays board word told tnew wold more mold mnew side p taken sources.Memory term later
    memory reads writes mar there is =
    reads_stay told tnew wold mold mnew side p.mar term later memory reads writes mar there is
from_stays board word told tnew wold more mold mnew side p taken sources.Ir term later
    memory reads writes mar there is = is
from_stays board word told tnew wold more mold mnew side p taken sources.Mar term later
    memory reads writes mar there is =
    widened_stays told tnew board.address board.width p.mar term later.extends is
from_stays board word told tnew wold more mold mnew side p taken sources.Input term later
    memory reads writes mar there is =
    found_stays wold more (Input taken) term is
from_stays board word told tnew wold more mold mnew side p taken
    (sources.Field n) term later memory reads writes mar there is =
    op_stays told tnew term (Con (in_field (slice_get board.fields n) word % 2 ^ board.width) board.width)
    later.extends is
from_stays board word told tnew wold more mold mnew side p taken
    (sources.Flip n) term later memory reads writes mar there is =
    widened_stays told tnew 1 board.width (slice_index p.flips n) term later.extends is

pub masked_stays : (told tnew : Table) (width : ℕ) (mask : Option ℕ) (whole term : ℕ) → Extends told tnew
    → IsMasked told width mask whole term → IsMasked tnew width mask whole term
masked_stays told tnew width None whole term extends is = is
masked_stays told tnew width (Some mask) whole term extends is = (
  is.0,
  op_stays told tnew is.0 (Con mask width) extends is.1,
  op_stays told tnew term (And whole is.0) extends is.2,
)

-- ---- F

pub r_stays : (told tnew : Table) (width : ℕ) (source : Source) (a d term : ℕ) → Extends told tnew
    → IsR told width source a d term → IsR tnew width source a d term
r_stays told tnew width operands.Zq a d term extends is = op_stays told tnew term (Con 0 width) extends is
r_stays told tnew width operands.Zb a d term extends is = op_stays told tnew term (Con 0 width) extends is
r_stays told tnew width operands.Za a d term extends is = op_stays told tnew term (Con 0 width) extends is
r_stays told tnew width source a d term extends is = is

pub s_stays : (told tnew : Table) (width : ℕ) (source : Source) (a b q term : ℕ) → Extends told tnew
    → IsS told width source a b q term → IsS tnew width source a b q term
s_stays told tnew width operands.Dz a b q term extends is = op_stays told tnew term (Con 0 width) extends is
s_stays told tnew width source a b q term extends is = is

pub addend_r_stays : (told tnew : Table) (function : Function) (r addend : ℕ) → Extends told tnew
    → IsAddendR told function r addend → IsAddendR tnew function r addend
addend_r_stays told tnew functions.Subr r addend extends is = op_stays told tnew addend (Not r) extends is
addend_r_stays told tnew function r addend extends is = is

pub addend_s_stays : (told tnew : Table) (function : Function) (s addend : ℕ) → Extends told tnew
    → IsAddendS told function s addend → IsAddendS tnew function s addend
addend_s_stays told tnew functions.Subs s addend extends is = op_stays told tnew addend (Not s) extends is
addend_s_stays told tnew function s addend extends is = is

pub f_stays : (told tnew : Table) (function : Function) (r s first second carry f : ℕ) → Extends told tnew
    → IsF told function r s first second carry f → IsF tnew function r s first second carry f
f_stays told tnew functions.Or r s first second carry f extends is = op_stays told tnew f (Or r s) extends is
f_stays told tnew functions.And r s first second carry f extends is = op_stays told tnew f (And r s) extends is
f_stays told tnew functions.Notrs r s first second carry f extends is = (
  is.0,
  op_stays told tnew is.0 (Not r) extends is.1,
  op_stays told tnew f (And is.0 s) extends is.2,
)
f_stays told tnew functions.Exor r s first second carry f extends is = op_stays told tnew f (Xor r s) extends is
f_stays told tnew functions.Exnor r s first second carry f extends is = (
  is.0,
  op_stays told tnew is.0 (Xor r s) extends is.1,
  op_stays told tnew f (Not is.0) extends is.2,
)
f_stays told tnew function r s first second carry f extends is =
    op_stays told tnew f (Sum first second carry) extends is

-- ---- bits

pub early_bit_stays : (board : BoardParts) (told tnew : Table) (p : Parts) (sp line : ℕ) (bit : Bit) (term : ℕ)
    → Extends told tnew → IsEarlyBit board told p sp line bit term → IsEarlyBit board tnew p sp line bit term
early_bit_stays board told tnew p sp line bits.One term extends is = op_stays told tnew term (Con 1 1) extends is
early_bit_stays board told tnew p sp line bits.QLow term extends is = op_stays told tnew term (Part p.q 0 1) extends is
early_bit_stays board told tnew p sp line bits.QHigh term extends is =
    op_stays told tnew term (Part p.q (board.width - 1) 1) extends is
early_bit_stays board told tnew p sp line bits.Line term extends is = is
early_bit_stays board told tnew p sp line bits.Full term extends is =
    op_stays told tnew term (Con (num (sp == depth_of board)) 1) extends is
early_bit_stays board told tnew p sp line (bits.Ir n) term extends is =
    op_stays told tnew term (Part p.ir n 1) extends is
early_bit_stays board told tnew p sp line (bits.Flip n) term extends is = is
early_bit_stays board told tnew p sp line other term extends is = op_stays told tnew term (Con 0 1) extends is

pub bit_term_stays : (board : BoardParts) (told tnew : Table) (p : Parts) (sp : ℕ) (n : Sources) (bit : Bit) (term : ℕ)
    → Extends told tnew → IsBitTerm board told p sp n bit term → IsBitTerm board tnew p sp n bit term
bit_term_stays board told tnew p sp n bits.Carry term extends is =
    op_stays told tnew term (carry_op (sources_of n)) extends is
bit_term_stays board told tnew p sp n bits.Overflow term extends is =
    op_stays told tnew term (overflow_op (sources_of n)) extends is
bit_term_stays board told tnew p sp n bits.FZero term extends is = (
  is.0,
  op_stays told tnew is.0 (Con 0 board.width) extends is.1,
  op_stays told tnew term (Eq n.f is.0) extends is.2,
)
bit_term_stays board told tnew p sp n bits.Sign term extends is =
    op_stays told tnew term (Part n.f (board.width - 1) 1) extends is
bit_term_stays board told tnew p sp n bits.FLow term extends is = op_stays told tnew term (Part n.f 0 1) extends is
bit_term_stays board told tnew p sp n bits.FHigh term extends is =
    op_stays told tnew term (Part n.f (board.width - 1) 1) extends is
bit_term_stays board told tnew p sp n other term extends is =
    early_bit_stays board told tnew p sp n.line other term extends is

pub early_bits_stay : (board : BoardParts) (told tnew : Table) (p : Parts) (sp line : ℕ) (made : List MadeBit)
    → Extends told tnew → Keeps told tnew → AreEarlyBits board told p sp line made
    → AreEarlyBits board tnew p sp line made
early_bits_stay board told tnew p sp line made extends keeps are = λ k m is.
    (let before = are k m is in (
      width_stays told tnew 1 m.term extends keeps before.0,
      early_bit_stays board told tnew p sp line m.bit m.term extends before.1,
    ))

pub late_bits_stay : (board : BoardParts) (told tnew : Table) (p : Parts) (sp : ℕ) (n : Sources) (made : List MadeBit)
    → Extends told tnew → Keeps told tnew → AreLateBits board told p sp n made → AreLateBits board tnew p sp n made
late_bits_stay board told tnew p sp n made extends keeps are = λ k m is.
    (let before = are k m is in (
      width_stays told tnew 1 m.term extends keeps before.0,
      bit_term_stays board told tnew p sp n m.bit m.term extends before.1,
    ))

pub bits_stay : (board : BoardParts) (told tnew : Table) (p : Parts) (sp : ℕ) (n : Sources) (b : Bits)
    → Extends told tnew → Keeps told tnew → AreBits board told p sp n b → AreBits board tnew p sp n b
bits_stay board told tnew p sp n b extends keeps are = record {
  early = early_bits_stay board told tnew p sp n.line b.early extends keeps are.early;
  late = late_bits_stay board told tnew p sp n b.late extends keeps are.late;
}

pub sources_stay : (board : BoardParts) (told tnew : Table) (n : Sources) → Extends told tnew → Keeps told tnew
    → AreSources board told n → AreSources board tnew n
sources_stay board told tnew n extends keeps are = record {
  line = width_stays told tnew 1 n.line extends keeps are.line;
  noise = width_stays told tnew 14 n.noise extends keeps are.noise;
  first = width_stays told tnew board.width n.first extends keeps are.first;
  second = width_stays told tnew board.width n.second extends keeps are.second;
  carry = width_stays told tnew 1 n.carry extends keeps are.carry;
  f = width_stays told tnew board.width n.f extends keeps are.f;
}

pub parts_stay : (board : BoardParts) (told tnew : Table) (p : Parts) → Extends told tnew → Keeps told tnew
    → AreParts board told p → AreParts board tnew p
parts_stay board told tnew p extends keeps are = record {
  sixteen = are.sixteen;
  flips = are.flips;
  stack = are.stack;
  wide = λ e is. width_stays told tnew (bits_of board e) (term_of_part p e) extends keeps (are.wide e is);
}

-- ---- addresses

pub entry_stays : (none : Bool) (board : BoardParts) (told tnew : Table) (ir term : ℕ) → Extends told tnew
    → IsEntry none board told ir term → IsEntry none board tnew ir term
entry_stays true board told tnew ir term extends is = op_stays told tnew term (Con 0 12) extends is
entry_stays false board told tnew ir term extends is = (
  is.0,
  part_stays told tnew board.width ir board.map_low board.map_bits is.0 extends is.1,
  op_stays told tnew term (Tab is.0) extends is.2,
)

pub direct_stays : (instruction : Instruction) (board : BoardParts) (m : Microword) (told tnew : Table) (ir term : ℕ)
    → Extends told tnew → IsDirect instruction board m told ir term → IsDirect instruction board m tnew ir term
direct_stays Jmap board m told tnew ir term extends is =
    entry_stays (board.map_bits == 0) board told tnew ir term extends is
direct_stays Cjv board m told tnew ir term extends is = op_stays told tnew term (Con board.vector 12) extends is
direct_stays other board m told tnew ir term extends is = op_stays told tnew term (Con m.branch 12) extends is

pub top_stays : (empty : Bool) (told tnew : Table) (p : Parts) (sp noise term : ℕ) → Extends told tnew
    → IsTop empty told p sp noise term → IsTop empty tnew p sp noise term
top_stays true told tnew p sp noise term extends is = op_stays told tnew term (Part noise 0 12) extends is
top_stays false told tnew p sp noise term extends is = is

pub next_stays : (told tnew : Table) (p : Parts) (sp noise direct : ℕ) (from : AddressFrom) (term : ℕ)
    → Extends told tnew → IsNext told p sp noise direct from term → IsNext tnew p sp noise direct from term
next_stays told tnew p sp noise direct addresses.Zero term extends is = op_stays told tnew term (Con 0 12) extends is
next_stays told tnew p sp noise direct addresses.F term extends is =
    top_stays (sp == 0) told tnew p sp noise term extends is
next_stays told tnew p sp noise direct from term extends is = is

pub less_one_stays : (told tnew : Table) (r term : ℕ)
    → Extends told tnew → IsLessOne told r term → IsLessOne tnew r term
less_one_stays told tnew r term extends is = (
  is.0,
  is.1,
  op_stays told tnew is.0 (Con 4095 12) extends is.2,
  op_stays told tnew is.1 (Con 0 1) extends is.3,
  op_stays told tnew term (Sum r is.0 is.1) extends is.4,
)

-- ---- the edge

pub down_stays : (told tnew : Table) (width word high term : ℕ) → Extends told tnew → IsDown told width word high term
    → IsDown tnew width word high term
down_stays told tnew width word high term extends is = (
  is.0,
  op_stays told tnew is.0 (Part word 1 (width - 1)) extends is.1,
  op_stays told tnew term (Join high is.0) extends is.2,
)

pub up_stays : (told tnew : Table) (width word low term : ℕ) → Extends told tnew → IsUp told width word low term
    → IsUp tnew width word low term
up_stays told tnew width word low term extends is = (
  is.0,
  op_stays told tnew is.0 (Part word 0 (width - 1)) extends is.1,
  op_stays told tnew term (Join is.0 low) extends is.2,
)

pub shifted_down_stays : (board : BoardParts) (told tnew : Table) (p : Parts) (sp : ℕ) (n : Sources) (link : Bit)
    (word : ℕ) (o : Option ℕ) → Extends told tnew → IsShiftedDown board told p sp n link word o
    → IsShiftedDown board tnew p sp n link word o
shifted_down_stays board told tnew p sp n link word o extends is = (
  is.0,
  is.1,
  is.2,
  bit_term_stays board told tnew p sp n link is.0 extends is.3,
  down_stays told tnew board.width word is.0 is.1 extends is.4,
)

pub shifted_up_stays : (board : BoardParts) (told tnew : Table) (p : Parts) (sp : ℕ) (n : Sources) (link : Bit)
    (word : ℕ) (o : Option ℕ) → Extends told tnew → IsShiftedUp board told p sp n link word o
    → IsShiftedUp board tnew p sp n link word o
shifted_up_stays board told tnew p sp n link word o extends is = (
  is.0,
  is.1,
  is.2,
  bit_term_stays board told tnew p sp n link is.0 extends is.3,
  up_stays told tnew board.width word is.0 is.1 extends is.4,
)

pub written_b_stays : (destination : Destination) (board : BoardParts) (m : Microword) (told tnew : Table) (p : Parts)
    (sp : ℕ) (n : Sources) (o : Option ℕ) → Extends told tnew → IsWrittenB destination board m told p sp n o
    → IsWrittenB destination board m tnew p sp n o
written_b_stays destinations.Ramqd board m told tnew p sp n o extends is =
    shifted_down_stays board told tnew p sp n m.ram_link n.f o extends is
written_b_stays destinations.Ramd board m told tnew p sp n o extends is =
    shifted_down_stays board told tnew p sp n m.ram_link n.f o extends is
written_b_stays destinations.Ramqu board m told tnew p sp n o extends is =
    shifted_up_stays board told tnew p sp n m.ram_link n.f o extends is
written_b_stays destinations.Ramu board m told tnew p sp n o extends is =
    shifted_up_stays board told tnew p sp n m.ram_link n.f o extends is
written_b_stays destination board m told tnew p sp n o extends is = is

pub written_q_stays : (destination : Destination) (board : BoardParts) (m : Microword) (told tnew : Table) (p : Parts)
    (sp : ℕ) (n : Sources) (o : Option ℕ) → Extends told tnew → IsWrittenQ destination board m told p sp n o
    → IsWrittenQ destination board m tnew p sp n o
written_q_stays destinations.Ramqd board m told tnew p sp n o extends is =
    shifted_down_stays board told tnew p sp n m.q_link p.q o extends is
written_q_stays destinations.Ramqu board m told tnew p sp n o extends is =
    shifted_up_stays board told tnew p sp n m.q_link p.q o extends is
written_q_stays destination board m told tnew p sp n o extends is = is

pub loaded_stays : (load : Load) (board : BoardParts) (told tnew : Table) (p : Parts) (sp : ℕ) (n : Sources)
    (old term : ℕ)
    → Extends told tnew → IsLoaded load board told p sp n old term → IsLoaded load board tnew p sp n old term
loaded_stays loads.Hold board told tnew p sp n old term extends is = is
loaded_stays loads.Invert board told tnew p sp n old term extends is = op_stays told tnew term (Not old) extends is
loaded_stays loads.XorCarry board told tnew p sp n old term extends is = (
  is.0,
  bit_term_stays board told tnew p sp n bits.Carry is.0 extends is.1,
  op_stays told tnew term (Xor old is.0) extends is.2,
)
loaded_stays (loads.Take bit) board told tnew p sp n old term extends is =
    bit_term_stays board told tnew p sp n bit term extends is

pub all_loaded_stay : (board : BoardParts) (m : Microword) (told tnew : Table) (p : Parts) (sp : ℕ) (n : Sources)
    (terms : List ℕ) → Extends told tnew → AreLoaded board m told p sp n terms → AreLoaded board m tnew p sp n terms
all_loaded_stay board m told tnew p sp n terms extends are = record {
  count = are.count;
  each = λ k f is. loaded_stays (load_of board m f) board told tnew p sp n (slice_index p.flips k) (slice_index terms k)
      extends (are.each k f is);
}
