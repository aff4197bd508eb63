-- What a symbolic cycle has made: what it read before its edge, what it knows of its end, and what the parts take.
use Rattle.std.specs.Prelude.{◌≡◌, ℕ, zero, suc, ◌+◌, ◌*◌, ◌%◌, ◌^◌, List, [], ◌∷◌, Bool, true, false, if◌then◌else◌}
use Rattle.std.specs.Prelude.{slice_index, slice_set, Option, Some, None}
use Rattle.mw_base.specs.Words.{num}
use Rattle.mw_alu.specs.declared.instruction.Destination.{Destination}
use Rattle.mw_alu.specs.declared.instruction.Destination.TheVariants.{Rama}
use Rattle.mw_alu.specs.Instruction.{source_of, function_of, destination_of}
use Rattle.mw_board.specs.declared.parts.BoardParts.{BoardParts}
use Rattle.mw_board.specs.Depth.{depth_of}
use Rattle.mw_term.specs.declared.decided.Decided.{Decided}
use Rattle.mw_cycle.specs.declared.microword.Microword.{Microword}
use Rattle.mw_cycle.specs.EdgeWords.{or_taken, pushed_word, sp_after, with_pushed, with_taken}
use Rattle.mw_cycle.specs.ReadingWords.{y_term}
use Rattle.mw_cycle.specs.Decided.{decides_pass, decides_counter}
use Rattle.mw_seq.specs.declared.instruction.CounterMove.{CounterMove}
use Rattle.mw_seq.specs.declared.instruction.CounterMove.TheVariants as counters
use Rattle.mw_seq.specs.declared.instruction.Effect.{Effect}
use Rattle.mw_seq.specs.Instruction.{instruction_of, effect_of}
use Rattle.mw_cycle.specs.SteadySeries.{Noise, kind_of}
use Rattle.mw_term.specs.declared.op.Op.TheVariants.{Con, Not}
use Rattle.mw_term.specs.Table.{Table}
use Rattle.mw_term.specs.declared.word.Word.{Word}
use Rattle.mw_symmem.specs.Memory.{Memory, IsOfWidth}
use Rattle.mw_term.specs.WordList.{term_of}
use Rattle.mw_symboard.specs.declared.bits.Sources.{Sources}
use Rattle.mw_symboard.specs.declared.reading.Reading.{Reading}
use Rattle.mw_symboard.specs.declared.leaving.Leaving.{Leaving}
use Rattle.mw_symboard.specs.Bits.{AreBits, AreSources}
use Rattle.mw_symboard.specs.Made.{Is, IsFrom, IsMasked, IsR, IsS, IsAddendR, IsAddendS, IsF, IsEarlyBit, IsBitTerm}
use Rattle.mw_symboard.specs.Made.{IsDirect, IsNext, IsLessOne, IsWrittenB, IsWrittenQ, AreLoaded, IsPart}
use Rattle.mw_cycle.specs.BoardTerms.{Parts}
use Rattle.mw_symboard.specs.Seen.{Progress, line_term}

-- ---- what was read

-- a bit turned over where polarity is 1
abbrev pub IsTurned : (polarity : Bool) → Table → (bit term : ℕ) → Type 0
IsTurned true t bit term = Is t (Not bit) term
IsTurned false t bit term = term ≡ bit

-- what F was made of: the carry in, the operands and what is added for them, by the terms of a board's parts
pub record AreOperands (board : BoardParts) (m : Microword) (t : Table) (p : Parts) (sp d : ℕ)
    (n : Sources) : Type 0 where
  pub first : ℕ
  pub second : ℕ
  pub carry : IsEarlyBit board t p sp n.line m.carry_in n.carry
  pub function : n.function ≡ function_of m.instruction
  pub operand_r : IsR t board.width (source_of m.instruction) (slice_index p.regs m.a_address) d first
  pub operand_s : IsS t board.width (source_of m.instruction) (slice_index p.regs m.a_address)
      (slice_index p.regs m.b_address) p.q second
  pub addend_r : IsAddendR t n.function first n.first
  pub addend_s : IsAddendS t n.function second n.second
  pub f : IsF t n.function first second n.first n.second n.carry n.f
  pub first_wide : IsOfWidth t board.width first
  pub second_wide : IsOfWidth t board.width second
  pub sources : AreSources board t n

-- what a cycle read from its place: the line and the variable of the noise, D, the carry in, the operands and F, the bits that
-- were made, the condition and Y
pub record IsReading (board : BoardParts) (m : Microword) (t : Table) (words : List Word) (memory : Memory)
    (p : Progress) (made : Reading) : Type 0 where
  pub d : ℕ
  pub first : ℕ
  pub second : ℕ
  pub line : line_term words p ≡ Some made.sources.line
  pub noise : term_of words (kind_of p.side Noise p.cycle) ≡ Some made.sources.noise
  pub source : IsFrom board m.word t words memory p.side p.parts p.taken m.d.from made.source
  pub masked : IsMasked t board.width m.d.mask made.source d
  pub carry : IsEarlyBit board t p.parts p.sp made.sources.line m.carry_in made.sources.carry
  pub function : made.sources.function ≡ function_of m.instruction
  pub operand_r : IsR t board.width (source_of m.instruction) (slice_index p.parts.regs m.a_address) d first
  pub operand_s : IsS t board.width (source_of m.instruction) (slice_index p.parts.regs m.a_address)
      (slice_index p.parts.regs m.b_address) p.parts.q second
  pub addend_r : IsAddendR t made.sources.function first made.sources.first
  pub addend_s : IsAddendS t made.sources.function second made.sources.second
  pub f : IsF t made.sources.function first second made.sources.first made.sources.second
      made.sources.carry made.sources.f
  pub bits : AreBits board t p.parts p.sp made.sources made.bits
  pub bit : ℕ
  pub tested : IsBitTerm board t p.parts p.sp made.sources m.condition bit
  pub condition : IsTurned m.polarity t bit made.condition
  pub y : made.y ≡ y_term (destination_of m.instruction) (slice_index p.parts.regs m.a_address) made.sources.f
  pub source_wide : IsOfWidth t board.width made.source
  pub d_wide : IsOfWidth t board.width d
  pub first_wide : IsOfWidth t board.width first
  pub second_wide : IsOfWidth t board.width second
  pub sources : AreSources board t made.sources
  pub condition_wide : IsOfWidth t 1 made.condition
  pub y_wide : IsOfWidth t board.width made.y

-- ---- what is known of the end

-- the value of a decided bit, by its place
abbrev pub value_in : List Decided → (place : ℕ) → Bool
value_in [] place = false
value_in (d ∷ rest) zero = d.value
value_in (d ∷ rest) (suc place) = value_in rest place

-- pass: as it was decided, and else 1
abbrev pub pass_by : Microword → List Decided → Bool
pass_by m decided = if decides_pass m then value_in decided 0 else true

-- whether the counter is zero: as it was decided, and else not
abbrev pub zero_by : Microword → List Decided → Bool
zero_by m decided = if decides_counter m then value_in decided (num (decides_pass m)) else false

-- the entry of the Am2910's table, by what was decided
abbrev pub effect_by : Microword → List Decided → Effect
effect_by m decided = effect_of (instruction_of m.sequencer) (pass_by m decided) (zero_by m decided)

-- how many decided bits stand before those of the next address
abbrev pub bits_before : Microword → ℕ
bits_before m = num (decides_pass m) + num (decides_counter m)

-- the register/counter after the edge
abbrev pub IsCounter : (rld : Bool) → CounterMove → Table → (old direct term : ℕ) → Type 0
IsCounter true move t old direct term = term ≡ direct
IsCounter false counters.Same t old direct term = term ≡ old
IsCounter false counters.Loaded t old direct term = term ≡ direct
IsCounter false counters.Counted t old direct term = IsLessOne t old term

-- the next address and the register/counter, by what was decided
pub record IsLeaving (board : BoardParts) (m : Microword) (t : Table) (p : Progress) (noise : ℕ)
    (l : Leaving) : Type 0 where
  pub direct : ℕ
  pub is_direct : IsDirect (instruction_of m.sequencer) board m t p.parts.ir direct
  pub next : IsNext t p.parts p.sp noise direct (effect_by m p.decided).next l.next
  pub r : IsCounter m.rld (effect_by m p.decided).counter t p.parts.r direct l.r
  pub direct_wide : IsOfWidth t 12 direct
  pub next_wide : IsOfWidth t 12 l.next
  pub r_wide : IsOfWidth t 12 l.r

-- ---- the edge

-- the bits from a place on, as a number of so many bits, the first highest
abbrev pub number_in : List Decided → (place count : ℕ) → ℕ
number_in decided place zero = 0
number_in decided place (suc count) = number_in decided place count * 2 + num (value_in decided (place + count))

-- the address register after the edge
abbrev pub IsMar : (load : Bool) → BoardParts → Table → (old y term : ℕ) → Type 0
IsMar true board t old y term = IsPart t board.width y 0 board.address term
IsMar false board t old y term = term ≡ old

-- what the parts of a place are after the edge
pub record IsEdge (board : BoardParts) (m : Microword) (t : Table) (old new : Progress) (made : Reading)
    (l : Leaving) : Type 0 where
  pub side : new.side ≡ old.side
  pub written : Option ℕ
  pub is_written : IsWrittenB (destination_of m.instruction) board m t old.parts old.sp made.sources written
  pub regs : new.parts.regs ≡ with_taken old.parts.regs m.b_address written
  pub taken : Option ℕ
  pub is_taken : IsWrittenQ (destination_of m.instruction) board m t old.parts old.sp made.sources taken
  pub q : new.parts.q ≡ or_taken old.parts.q taken
  pub mar : IsMar m.mar_load board t old.parts.mar made.y new.parts.mar
  pub ir : new.parts.ir ≡ (if m.ir_load then made.y else old.parts.ir)
  pub flips : AreLoaded board m t old.parts old.sp made.sources new.parts.flips
  pub at : new.at ≡ number_in old.decided (bits_before m) 12
  pub pc : Is t (Con ((new.at + num m.ci) % 2 ^ 12) 12) new.parts.pc
  pub counter : new.parts.r ≡ l.r
  pub stack : new.parts.stack
      ≡ with_pushed old.parts.stack (pushed_word (effect_by m old.decided).stack (depth_of board) old.sp) old.parts.pc
  pub sp : new.sp ≡ sp_after (effect_by m old.decided).stack (depth_of board) old.sp
