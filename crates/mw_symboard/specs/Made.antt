-- What the terms of a cycle's nets are made of, by the word table: a net that only passes a value on is that other
-- term. These relations are what the values of the terms are shown from; which words there are, and in which order, are
-- the definitions of mw_cycle (ReadingWords, LeavingWords, EdgeWords). A rule that changes changes in both.
use Rattle.std.specs.Prelude.{◌≡◌, ℕ, ◌+◌, ◌-◌, ◌%◌, ◌^◌, ◌⊎◌, List, length, Bool, true, false, ◌==◌, nat_lt}
use Rattle.std.specs.Prelude.{if◌then◌else◌, slice_get, slice_index, Option, Some, None}
use Rattle.mw_base.specs.Words.{num}
use Rattle.mw_alu.specs.declared.instruction.Destination.{Destination}
use Rattle.mw_alu.specs.declared.instruction.Destination.TheVariants as destinations
use Rattle.mw_alu.specs.declared.instruction.Function.{Function}
use Rattle.mw_alu.specs.declared.instruction.Function.TheVariants as functions
use Rattle.mw_alu.specs.declared.instruction.Source.{Source}
use Rattle.mw_alu.specs.declared.instruction.Source.TheVariants as operands
use Rattle.mw_alu.specs.WholeWord.{is_sum}
use Rattle.mw_board.specs.declared.bit.Bit.{Bit}
use Rattle.mw_board.specs.declared.bit.Bit.TheVariants as bits
use Rattle.mw_board.specs.declared.bit.DFrom.{DFrom}
use Rattle.mw_board.specs.declared.bit.DFrom.TheVariants as sources
use Rattle.mw_board.specs.declared.bit.Load.{Load}
use Rattle.mw_board.specs.declared.bit.Load.TheVariants as loads
use Rattle.mw_board.specs.declared.flipflop.FlipFlop.{FlipFlop}
use Rattle.mw_board.specs.declared.parts.BoardParts.{BoardParts}
use Rattle.mw_board.specs.Depth.{depth_of}
use Rattle.mw_cycle.specs.declared.microword.Microword.{Microword}
use Rattle.mw_cycle.specs.Control.{in_field}
use Rattle.mw_cycle.specs.BoardTerms.{Parts}
use Rattle.mw_cycle.specs.Cycle.{load_of}
use Rattle.mw_cycle.specs.ReadingWords as words
use Rattle.mw_cycle.specs.ReadingWords.{carry_op, overflow_op}
use Rattle.mw_seq.specs.declared.instruction.AddressFrom.{AddressFrom}
use Rattle.mw_seq.specs.declared.instruction.AddressFrom.TheVariants as addresses
use Rattle.mw_seq.specs.declared.instruction.Instruction.{Instruction}
use Rattle.mw_seq.specs.declared.instruction.Instruction.TheVariants.{Jmap, Cjv}
use Rattle.mw_seq.specs.declared.instruction.StackMove.{StackMove}
use Rattle.mw_seq.specs.declared.instruction.StackMove.TheVariants as moves
use Rattle.mw_term.specs.declared.kinds.WordKind.TheVariants.{Input}
use Rattle.mw_term.specs.declared.op.Op.{Op}
use Rattle.mw_term.specs.declared.op.Op.TheVariants.{Con, Not, And, Or, Xor, Sum, Cout, Ovf, Eq, Part, Join, Tab}
use Rattle.mw_term.specs.Table.{Table}
use Rattle.mw_term.specs.declared.side.Side.{Side}
use Rattle.mw_term.specs.declared.word.Word.{Word}
use Rattle.mw_term.specs.WordList.{term_of}
use Rattle.mw_symmem.specs.Memory.{Memory, IsRead}
use Rattle.mw_symboard.specs.declared.bits.Sources.{Sources}

-- a term has this op
abbrev pub Is : Table → Op → (term : ℕ) → Type 0
Is t op term = slice_get t.ops term ≡ Some op

-- a term of so many bits as one of no fewer: as many are that term itself, and more are 0 above it
abbrev pub IsWidened : Table → (from to narrow term : ℕ) → Type 0
IsWidened t from to narrow term =
    ((from ≡ to) × (term ≡ narrow)) ⊎ ((zeros : ℕ) × Is t (Con 0 (to - from)) zeros × Is t (Join zeros narrow) term)

-- so many bits of a term from one on: all of them are that term itself
abbrev pub IsPart : Table → (whole_width whole low width term : ℕ) → Type 0
IsPart t whole_width whole low width term =
    ((width ≡ whole_width) × (low ≡ 0) × (term ≡ whole)) ⊎ Is t (Part whole low width) term

-- ---- D

-- D before its mask
abbrev pub IsFrom : BoardParts → (word : ℕ) → Table → List Word → Memory → Side → Parts → (taken : ℕ) → DFrom
    → (term : ℕ) → Type 0
IsFrom board word t words m side p taken sources.Zero term = Is t (Con 0 board.width) term
IsFrom board word t words m side p taken sources.Memory term = IsRead t m side p.mar term
IsFrom board word t words m side p taken sources.Ir term = term ≡ p.ir
IsFrom board word t words m side p taken sources.Mar term = IsWidened t board.address board.width p.mar term
IsFrom board word t words m side p taken sources.Input term = term_of words (Input taken) ≡ Some term
IsFrom board word t words m side p taken (sources.Field n) term =
    Is t (Con (in_field (slice_get board.fields n) word % 2 ^ board.width) board.width) term
IsFrom board word t words m side p taken (sources.Flip n) term = IsWidened t 1 board.width (slice_index p.flips n) term

-- D behind its mask
abbrev pub IsMasked : Table → (width : ℕ) → Option ℕ → (whole term : ℕ) → Type 0
IsMasked t width None whole term = term ≡ whole
IsMasked t width (Some mask) whole term =
    (constant : ℕ) × Is t (Con mask width) constant × Is t (And whole constant) term

-- ---- F

-- the operand R
abbrev pub IsR : Table → (width : ℕ) → Source → (a d term : ℕ) → Type 0
IsR t width operands.Aq a d term = term ≡ a
IsR t width operands.Ab a d term = term ≡ a
IsR t width operands.Zq a d term = Is t (Con 0 width) term
IsR t width operands.Zb a d term = Is t (Con 0 width) term
IsR t width operands.Za a d term = Is t (Con 0 width) term
IsR t width operands.Da a d term = term ≡ d
IsR t width operands.Dq a d term = term ≡ d
IsR t width operands.Dz a d term = term ≡ d

-- the operand S
abbrev pub IsS : Table → (width : ℕ) → Source → (a b q term : ℕ) → Type 0
IsS t width operands.Aq a b q term = term ≡ q
IsS t width operands.Ab a b q term = term ≡ b
IsS t width operands.Zq a b q term = term ≡ q
IsS t width operands.Zb a b q term = term ≡ b
IsS t width operands.Za a b q term = term ≡ a
IsS t width operands.Da a b q term = term ≡ a
IsS t width operands.Dq a b q term = term ≡ q
IsS t width operands.Dz a b q term = Is t (Con 0 width) term

-- what is added for R
abbrev pub IsAddendR : Table → Function → (r addend : ℕ) → Type 0
IsAddendR t functions.Subr r addend = Is t (Not r) addend
IsAddendR t function r addend = addend ≡ r

-- what is added for S
abbrev pub IsAddendS : Table → Function → (s addend : ℕ) → Type 0
IsAddendS t functions.Subs s addend = Is t (Not s) addend
IsAddendS t function s addend = addend ≡ s

-- The word F of R, S and a carry in, where a sum is over these addends.
abbrev pub IsF : Table → Function → (r s first second carry f : ℕ) → Type 0
IsF t functions.Or r s first second carry f = Is t (Or r s) f
IsF t functions.And r s first second carry f = Is t (And r s) f
IsF t functions.Notrs r s first second carry f = (turned : ℕ) × Is t (Not r) turned × Is t (And turned s) f
IsF t functions.Exor r s first second carry f = Is t (Xor r s) f
IsF t functions.Exnor r s first second carry f = (differing : ℕ) × Is t (Xor r s) differing × Is t (Not differing) f
IsF t function r s first second carry f = Is t (Sum first second carry) f

-- ---- bits

-- a bit that stands before F is made, and else a 0
abbrev pub IsEarlyBit : BoardParts → Table → Parts → (sp line : ℕ) → Bit → (term : ℕ) → Type 0
IsEarlyBit board t p sp line bits.One term = Is t (Con 1 1) term
IsEarlyBit board t p sp line bits.QLow term = Is t (Part p.q 0 1) term
IsEarlyBit board t p sp line bits.QHigh term = Is t (Part p.q (board.width - 1) 1) term
IsEarlyBit board t p sp line bits.Line term = term ≡ line
IsEarlyBit board t p sp line bits.Full term = Is t (Con (num (sp == depth_of board)) 1) term
IsEarlyBit board t p sp line (bits.Ir n) term = Is t (Part p.ir n 1) term
IsEarlyBit board t p sp line (bits.Flip n) term = term ≡ slice_index p.flips n
IsEarlyBit board t p sp line other term = Is t (Con 0 1) term

-- what bits are made of
abbrev pub sources_of : Sources → words.Sources
sources_of n = record {
  line = n.line;
  noise = n.noise;
  function = n.function;
  first = n.first;
  second = n.second;
  carry = n.carry;
  f = n.f;
}

-- a bit, once F is made
abbrev pub IsBitTerm : BoardParts → Table → Parts → (sp : ℕ) → Sources → Bit → (term : ℕ) → Type 0
IsBitTerm board t p sp n bits.Carry term = Is t (carry_op (sources_of n)) term
IsBitTerm board t p sp n bits.Overflow term = Is t (overflow_op (sources_of n)) term
IsBitTerm board t p sp n bits.FZero term = (zero : ℕ) × Is t (Con 0 board.width) zero × Is t (Eq n.f zero) term
IsBitTerm board t p sp n bits.Sign term = Is t (Part n.f (board.width - 1) 1) term
IsBitTerm board t p sp n bits.FLow term = Is t (Part n.f 0 1) term
IsBitTerm board t p sp n bits.FHigh term = Is t (Part n.f (board.width - 1) 1) term
IsBitTerm board t p sp n other term = IsEarlyBit board t p sp n.line other term

-- ---- addresses

-- what the map gives for the instruction register, where it has no bits or some
abbrev pub IsEntry : (none : Bool) → BoardParts → Table → (ir term : ℕ) → Type 0
IsEntry true board t ir term = Is t (Con 0 12) term
IsEntry false board t ir term =
    (index : ℕ) × IsPart t board.width ir board.map_low board.map_bits index × Is t (Tab index) term

-- what the map gives for the instruction register
abbrev pub IsMapped : BoardParts → Table → (ir term : ℕ) → Type 0
IsMapped board t ir term = IsEntry (board.map_bits == 0) board t ir term

-- the address at the Am2910's D
abbrev pub IsDirect : Instruction → BoardParts → Microword → Table → (ir term : ℕ) → Type 0
IsDirect Jmap board m t ir term = IsMapped board t ir term
IsDirect Cjv board m t ir term = Is t (Con board.vector 12) term
IsDirect other board m t ir term = Is t (Con m.branch 12) term

-- F, the top of the stack, where that is empty or not
abbrev pub IsTop : (empty : Bool) → Table → Parts → (sp noise term : ℕ) → Type 0
IsTop true t p sp noise term = Is t (Part noise 0 12) term
IsTop false t p sp noise term = term ≡ slice_index p.stack (sp - 1)

-- the next address
abbrev pub IsNext : Table → Parts → (sp noise direct : ℕ) → AddressFrom → (term : ℕ) → Type 0
IsNext t p sp noise direct addresses.Zero term = Is t (Con 0 12) term
IsNext t p sp noise direct addresses.Pc term = term ≡ p.pc
IsNext t p sp noise direct addresses.D term = term ≡ direct
IsNext t p sp noise direct addresses.R term = term ≡ p.r
IsNext t p sp noise direct addresses.F term = IsTop (sp == 0) t p sp noise term

-- a counter less one, as a sum of 12 bits
abbrev pub IsLessOne : Table → (r term : ℕ) → Type 0
IsLessOne t r term = (ones zero : ℕ) × Is t (Con 4095 12) ones × Is t (Con 0 1) zero × Is t (Sum r ones zero) term

-- ---- the edge

-- a word shifted down, with this bit at its top
abbrev pub IsDown : Table → (width word high term : ℕ) → Type 0
IsDown t width word high term = (rest : ℕ) × Is t (Part word 1 (width - 1)) rest × Is t (Join high rest) term

-- a word shifted up, with this bit at its bottom
abbrev pub IsUp : Table → (width word low term : ℕ) → Type 0
IsUp t width word low term = (rest : ℕ) × Is t (Part word 0 (width - 1)) rest × Is t (Join rest low) term

-- a word shifted down by this link
abbrev pub IsShiftedDown : BoardParts → Table → Parts → (sp : ℕ) → Sources → Bit → (word : ℕ) → Option ℕ → Type 0
IsShiftedDown board t p sp n link word o =
    (high term : ℕ) × (o ≡ Some term) × IsBitTerm board t p sp n link high × IsDown t board.width word high term

-- a word shifted up by this link
abbrev pub IsShiftedUp : BoardParts → Table → Parts → (sp : ℕ) → Sources → Bit → (word : ℕ) → Option ℕ → Type 0
IsShiftedUp board t p sp n link word o =
    (low term : ℕ) × (o ≡ Some term) × IsBitTerm board t p sp n link low × IsUp t board.width word low term

-- what the register that B addresses takes, if it takes anything
abbrev pub IsWrittenB : Destination → BoardParts → Microword → Table → Parts → (sp : ℕ) → Sources → Option ℕ → Type 0
IsWrittenB destinations.Qreg board m t p sp n o = o ≡ None
IsWrittenB destinations.Nop board m t p sp n o = o ≡ None
IsWrittenB destinations.Rama board m t p sp n o = o ≡ Some n.f
IsWrittenB destinations.Ramf board m t p sp n o = o ≡ Some n.f
IsWrittenB destinations.Ramqd board m t p sp n o = IsShiftedDown board t p sp n m.ram_link n.f o
IsWrittenB destinations.Ramd board m t p sp n o = IsShiftedDown board t p sp n m.ram_link n.f o
IsWrittenB destinations.Ramqu board m t p sp n o = IsShiftedUp board t p sp n m.ram_link n.f o
IsWrittenB destinations.Ramu board m t p sp n o = IsShiftedUp board t p sp n m.ram_link n.f o

-- what Q takes, if it takes anything
abbrev pub IsWrittenQ : Destination → BoardParts → Microword → Table → Parts → (sp : ℕ) → Sources → Option ℕ → Type 0
IsWrittenQ destinations.Qreg board m t p sp n o = o ≡ Some n.f
IsWrittenQ destinations.Ramqd board m t p sp n o = IsShiftedDown board t p sp n m.q_link p.q o
IsWrittenQ destinations.Ramqu board m t p sp n o = IsShiftedUp board t p sp n m.q_link p.q o
IsWrittenQ other board m t p sp n o = o ≡ None

-- what a flip-flop takes, by its load
abbrev pub IsLoaded : Load → BoardParts → Table → Parts → (sp : ℕ) → Sources → (old term : ℕ) → Type 0
IsLoaded loads.Hold board t p sp n old term = term ≡ old
IsLoaded loads.Invert board t p sp n old term = Is t (Not old) term
IsLoaded loads.XorCarry board t p sp n old term =
    (carry : ℕ) × IsBitTerm board t p sp n bits.Carry carry × Is t (Xor old carry) term
IsLoaded (loads.Take bit) board t p sp n old term = IsBitTerm board t p sp n bit term

-- what the flip-flops take, each from the old values of all
pub record AreLoaded (board : BoardParts) (m : Microword) (t : Table) (p : Parts) (sp : ℕ) (n : Sources)
    (terms : List ℕ) : Type 0 where
  pub count : length terms ≡ length board.flipflop
  pub each : (k : ℕ) (f : FlipFlop) → slice_get board.flipflop k ≡ Some f
      → IsLoaded (load_of board m f) board t p sp n (slice_index p.flips k) (slice_index terms k)
