-- A cycle goes along its words, and leaves each term that is no constant with a word.
use Rattle.std.proofs.Common.{◌≡◌, ℕ, zero, suc, ◌+◌, ◌-◌, ◌*◌, ◌%◌, ◌^◌, List, [], ◌∷◌, ◌++◌, append_assoc, ap, refl}
use Rattle.std.proofs.Common.{sym, ◌∙◌}
use Rattle.std.specs.Prelude.{Bool, true, false, ◌==◌, if◌then◌else◌, slice_index, Option, Some, None}
use Rattle.std.proofs.lemmas.List.{append-nil}
use Rattle.mw_base.specs.Words.{num}
use Rattle.mw_alu.specs.declared.instruction.Destination.{Destination}
use Rattle.mw_alu.specs.declared.instruction.Destination.TheVariants as destinations
use Rattle.mw_alu.specs.declared.instruction.Function.{Function}
use Rattle.mw_alu.specs.declared.instruction.Function.TheVariants as functions
use Rattle.mw_alu.specs.declared.instruction.Source.{Source}
use Rattle.mw_alu.specs.declared.instruction.Source.TheVariants as operands
use Rattle.mw_alu.specs.Instruction.{destination_of, function_of, source_of}
use Rattle.mw_alu.specs.WholeWord.{is_sum}
use Rattle.mw_board.specs.declared.bit.Bit.{Bit}
use Rattle.mw_board.specs.declared.bit.Bit.TheVariants as bits
use Rattle.mw_board.specs.declared.bit.DFrom.{DFrom}
use Rattle.mw_board.specs.declared.bit.DFrom.TheVariants as sources
use Rattle.mw_board.specs.declared.bit.Load.{Load}
use Rattle.mw_board.specs.declared.bit.Load.TheVariants as loads
use Rattle.mw_board.specs.declared.flipflop.FlipFlop.{FlipFlop}
use Rattle.mw_board.specs.declared.parts.BoardParts.{BoardParts}
use Rattle.mw_board.specs.Store.{word_at}
use Rattle.mw_cycle.specs.declared.microword.Microword.{Microword}
use Rattle.mw_cycle.specs.BoardTerms.{Parts, Standing}
use Rattle.mw_cycle.specs.Cycle.{load_of}
use Rattle.mw_cycle.specs.CycleWords.{Come, along_address, along_counter, along_leaving, along_pass, along_test}
use Rattle.mw_cycle.specs.CycleWords.{along_zero, cycle_words}
use Rattle.mw_cycle.specs.Decided.{decides_counter, decides_pass}
use Rattle.mw_cycle.specs.EdgeWords.{Loaded, Takes, edge_made, edge_words, flips_words, linked_down_words}
use Rattle.mw_cycle.specs.EdgeWords.{linked_up_words, loaded_words, mar_words, q_words, register_words, with_flip}
use Rattle.mw_cycle.specs.LeavingWords as ends
use Rattle.mw_cycle.specs.LeavingWords.{Leaving, counter_words, direct_words, entry_words, leaving_words, next_words}
use Rattle.mw_cycle.specs.Microword.{points_of}
use Rattle.mw_cycle.specs.ReadingWords.{Bits, BitsMade, MadeBit, Reading, Sources, addends_words, all_read_words}
use Rattle.mw_cycle.specs.ReadingWords.{bit_words, bits_in_order, carry_op, condition_words, early_words, f_words}
use Rattle.mw_cycle.specs.ReadingWords.{first_words, is_read, line_words, made_or}
use Rattle.mw_cycle.specs.ReadingWords.{made_term, masked_words, no_bits, operands_words}
use Rattle.mw_cycle.specs.ReadingWords.{overflow_op, r_words, read_words, reading_words, s_words, second_words}
use Rattle.mw_cycle.specs.ReadingWords.{source_words, sources_words, turned_words}
use Rattle.mw_seq.specs.declared.instruction.AddressFrom.{AddressFrom}
use Rattle.mw_seq.specs.declared.instruction.AddressFrom.TheVariants as addresses
use Rattle.mw_seq.specs.declared.instruction.CounterMove.{CounterMove}
use Rattle.mw_seq.specs.declared.instruction.CounterMove.TheVariants as counters
use Rattle.mw_seq.specs.declared.instruction.Effect.{Effect}
use Rattle.mw_seq.specs.declared.instruction.Instruction.{Instruction}
use Rattle.mw_seq.specs.declared.instruction.Instruction.TheVariants.{Jmap, Cjv}
use Rattle.mw_seq.specs.Instruction.{effect_of, instruction_of}
use Rattle.mw_term.specs.declared.side.Side.{Side}
use Rattle.mw_cycle.specs.SteadySeries.{Line, Noise, kind_of}
use Rattle.mw_term.specs.declared.op.Op.{Op}
use Rattle.mw_term.specs.declared.op.Op.TheVariants.{Not, And, Or, Xor, Sum, Cout, Ovf, Eq, Part, Join, Tab}
use Rattle.mw_term.specs.MemoryRead.{Held}
use Rattle.mw_term.specs.Numbered.{IsNumbered, is_constant}
use Rattle.mw_term.specs.WordList.{WordList, Ended, with_constant, with_variable, with_word}
use Rattle.mw_term.proofs.Numbered.{numbered_constant, numbered_input, numbered_part, numbered_read, numbered_variable}
use Rattle.mw_term.proofs.Numbered.{numbered_word, numbered_zeros_above}
use Rattle.mw_symmem.specs.declared.turn.Turn.{Turn}
use Rattle.mw_symmem.specs.declared.turn.Turn.TheVariants.{Ask, Finished}
use Rattle.mw_symboard.specs.Along.{CyclesAreNumbered, CyclesBegin, CyclesGoAlong, left_by, standing_in}

-- ---- along a cycle

pub cycles_begin : CyclesBegin
cycles_begin board store o writes l none = λ more.
    sym (ap (λ x. left_by board store o.place (standing_in o writes) x o.leaving more l) none)

pub cycles_go_along : CyclesGoAlong
cycles_go_along board store start l bits mold mnew old new lold lnew (Ask kind term) along lists = (
  sym (ap (λ xs. cycle_words board store start xs l) (append-nil bits)) ∙ along [] ∙ lists.here,
  λ bit more.
      (ap (λ xs. cycle_words board store start xs l) (append_assoc bits (bit ∷ []) more) ∙ along (bit ∷ more)
      ∙ lists.on bit more),
)
cycles_go_along board store start l bits mold mnew old new lold lnew Finished along lists =
    sym (ap (λ xs. cycle_words board store start xs l) (append-nil bits)) ∙ along [] ∙ lists.here []

-- ---- numbers of what is read

numbered_source : (board : BoardParts) (word : ℕ) (p : Parts) (writes : List Held) (taken : ℕ) (from : DFrom)
    (l : WordList)
    → IsNumbered l → IsNumbered (source_words board word p writes taken from l).list
numbered_source board word p writes taken sources.Zero l has = numbered_constant 0 board.width l has
numbered_source board word p writes taken sources.Memory l has = numbered_read board.width p.mar writes l has
numbered_source board word p writes taken sources.Ir l has = has
numbered_source board word p writes taken sources.Mar l has = numbered_zeros_above board.address board.width p.mar l has
numbered_source board word p writes taken sources.Input l has = numbered_input taken board.width l has
numbered_source board word p writes taken (sources.Field n) l has = numbered_constant _ board.width l has
numbered_source board word p writes taken (sources.Flip n) l has =
    numbered_zeros_above 1 board.width (slice_index p.flips n) l has

numbered_masked : (width : ℕ) (mask : Option ℕ) (source : ℕ) (l : WordList) → IsNumbered l
    → IsNumbered (masked_words width mask source l).list
numbered_masked width None source l has = has
numbered_masked width (Some mask) source l has =
    let constant = with_constant mask width l in
    numbered_word (And source constant.term) constant.list refl (numbered_constant mask width l has)

numbered_r : (width : ℕ) (source : Source) (a d : ℕ) (l : WordList)
    → IsNumbered l → IsNumbered (r_words width source a d l).list
numbered_r width operands.Aq a d l has = has
numbered_r width operands.Ab a d l has = has
numbered_r width operands.Zq a d l has = numbered_constant 0 width l has
numbered_r width operands.Zb a d l has = numbered_constant 0 width l has
numbered_r width operands.Za a d l has = numbered_constant 0 width l has
numbered_r width operands.Da a d l has = has
numbered_r width operands.Dq a d l has = has
numbered_r width operands.Dz a d l has = has

numbered_s : (width : ℕ) (source : Source) (a b q : ℕ) (l : WordList) → IsNumbered l
    → IsNumbered (s_words width source a b q l).list
numbered_s width operands.Dz a b q l has = numbered_constant 0 width l has
numbered_s width operands.Aq a b q l has = has
numbered_s width operands.Ab a b q l has = has
numbered_s width operands.Zq a b q l has = has
numbered_s width operands.Zb a b q l has = has
numbered_s width operands.Za a b q l has = has
numbered_s width operands.Da a b q l has = has
numbered_s width operands.Dq a b q l has = has

numbered_first : (function : Function) (r : ℕ) (l : WordList)
    → IsNumbered l → IsNumbered (first_words function r l).list
numbered_first functions.Subr r l has = numbered_word (Not r) l refl has
numbered_first functions.Add r l has = has
numbered_first functions.Subs r l has = has
numbered_first functions.Or r l has = has
numbered_first functions.And r l has = has
numbered_first functions.Notrs r l has = has
numbered_first functions.Exor r l has = has
numbered_first functions.Exnor r l has = has

numbered_second : (function : Function) (s : ℕ) (l : WordList)
    → IsNumbered l → IsNumbered (second_words function s l).list
numbered_second functions.Subs s l has = numbered_word (Not s) l refl has
numbered_second functions.Add s l has = has
numbered_second functions.Subr s l has = has
numbered_second functions.Or s l has = has
numbered_second functions.And s l has = has
numbered_second functions.Notrs s l has = has
numbered_second functions.Exor s l has = has
numbered_second functions.Exnor s l has = has

numbered_f : (function : Function) (r s first second carry : ℕ) (l : WordList) → IsNumbered l
    → IsNumbered (f_words function r s first second carry l).list
numbered_f functions.Or r s first second carry l has = numbered_word (Or r s) l refl has
numbered_f functions.And r s first second carry l has = numbered_word (And r s) l refl has
numbered_f functions.Notrs r s first second carry l has =
    let turned = with_word (Not r) l in
    numbered_word (And turned.term s) turned.list refl (numbered_word (Not r) l refl has)
numbered_f functions.Exor r s first second carry l has = numbered_word (Xor r s) l refl has
numbered_f functions.Exnor r s first second carry l has =
    let differing = with_word (Xor r s) l in
    numbered_word (Not differing.term) differing.list refl (numbered_word (Xor r s) l refl has)
numbered_f functions.Add r s first second carry l has = numbered_word (Sum first second carry) l refl has
numbered_f functions.Subr r s first second carry l has = numbered_word (Sum first second carry) l refl has
numbered_f functions.Subs r s first second carry l has = numbered_word (Sum first second carry) l refl has

-- a bit that is found or made
numbered_once : (there : Option ℕ) (make : WordList → Ended) (l : WordList) → (IsNumbered l → IsNumbered (make l).list)
    → IsNumbered l → IsNumbered (made_or there make l).list
numbered_once (Some term) make l keeps has = has
numbered_once None make l keeps has = keeps has

numbered_early : (board : BoardParts) (p : Parts) (sp line : ℕ) (bit : Bit) (made : Bits) (l : WordList) → IsNumbered l
    → IsNumbered (early_words board p sp line bit made l).list
numbered_early board p sp line bits.One made l has = numbered_constant 1 1 l has
numbered_early board p sp line bits.QLow made l has =
    numbered_once (made_term made.early bits.QLow) _ l (numbered_word (Part p.q 0 1) l refl) has
numbered_early board p sp line bits.QHigh made l has =
    numbered_once (made_term made.early bits.QHigh) _ l (numbered_word (Part p.q (board.width - 1) 1) l refl) has
numbered_early board p sp line bits.Line made l has = has
numbered_early board p sp line bits.Full made l has = numbered_constant _ 1 l has
numbered_early board p sp line (bits.Ir n) made l has =
    numbered_once (made_term made.early (bits.Ir n)) _ l (numbered_word (Part p.ir n 1) l refl) has
numbered_early board p sp line (bits.Flip n) made l has = has
numbered_early board p sp line bits.Zero made l has = numbered_constant 0 1 l has
numbered_early board p sp line bits.Carry made l has = numbered_constant 0 1 l has
numbered_early board p sp line bits.Overflow made l has = numbered_constant 0 1 l has
numbered_early board p sp line bits.FZero made l has = numbered_constant 0 1 l has
numbered_early board p sp line bits.Sign made l has = numbered_constant 0 1 l has
numbered_early board p sp line bits.FLow made l has = numbered_constant 0 1 l has
numbered_early board p sp line bits.FHigh made l has = numbered_constant 0 1 l has

-- carry and overflow are no constants
no_constant : (sum : Bool) (one other : Op) → is_constant one ≡ false → is_constant other ≡ false
    → is_constant (if sum then one else other) ≡ false
no_constant true one other first second = first
no_constant false one other first second = second

numbered_zero : (width tested : ℕ) (l : WordList) → IsNumbered l
    → IsNumbered (with_word (Eq tested (with_constant 0 width l).term) (with_constant 0 width l).list).list
numbered_zero width tested l has =
    let zero = with_constant 0 width l in
    numbered_word (Eq tested zero.term) zero.list refl (numbered_constant 0 width l has)

numbered_bit : (board : BoardParts) (p : Parts) (sp : ℕ) (n : Sources) (bit : Bit) (made : Bits) (l : WordList)
    → IsNumbered l → IsNumbered (bit_words board p sp n bit made l).list
numbered_bit board p sp n bits.Carry made l has =
    numbered_once (made_term made.late bits.Carry) _ l (numbered_word (carry_op n) l
    (no_constant (is_sum n.function) (Cout n.first n.second n.carry) (Part n.noise 12 1) refl refl)) has
numbered_bit board p sp n bits.Overflow made l has =
    numbered_once (made_term made.late bits.Overflow) _ l (numbered_word (overflow_op n) l
    (no_constant (is_sum n.function) (Ovf n.first n.second n.carry) (Part n.noise 13 1) refl refl)) has
numbered_bit board p sp n bits.FZero made l has =
    numbered_once (made_term made.late bits.FZero) _ l (numbered_zero board.width n.f l) has
numbered_bit board p sp n bits.Sign made l has =
    numbered_once (made_term made.late bits.Sign) _ l (numbered_word (Part n.f (board.width - 1) 1) l refl) has
numbered_bit board p sp n bits.FLow made l has =
    numbered_once (made_term made.late bits.FLow) _ l (numbered_word (Part n.f 0 1) l refl) has
numbered_bit board p sp n bits.FHigh made l has =
    numbered_once (made_term made.late bits.FHigh) _ l (numbered_word (Part n.f (board.width - 1) 1) l refl) has
numbered_bit board p sp n bits.Zero made l has = numbered_early board p sp n.line bits.Zero made l has
numbered_bit board p sp n bits.One made l has = numbered_early board p sp n.line bits.One made l has
numbered_bit board p sp n bits.QLow made l has = numbered_early board p sp n.line bits.QLow made l has
numbered_bit board p sp n bits.QHigh made l has = numbered_early board p sp n.line bits.QHigh made l has
numbered_bit board p sp n bits.Line made l has = numbered_early board p sp n.line bits.Line made l has
numbered_bit board p sp n bits.Full made l has = numbered_early board p sp n.line bits.Full made l has
numbered_bit board p sp n (bits.Ir k) made l has = numbered_early board p sp n.line (bits.Ir k) made l has
numbered_bit board p sp n (bits.Flip k) made l has = numbered_early board p sp n.line (bits.Flip k) made l has

numbered_read_bit : (board : BoardParts) (m : Microword) (p : Parts) (sp : ℕ) (n : Sources) (bit : Bit) (b : BitsMade)
    → (read : Bool) → is_read board m bit ≡ read → IsNumbered b.list → IsNumbered (read_words board m p sp n bit b).list
numbered_read_bit board m p sp n bit b true is has = rw is (numbered_bit board p sp n bit b.bits b.list has)
numbered_read_bit board m p sp n bit b false is has = rw is has

numbered_all_read : (board : BoardParts) (m : Microword) (p : Parts) (sp : ℕ) (n : Sources) (xs : List Bit)
    (b : BitsMade)
    → IsNumbered b.list → IsNumbered (all_read_words board m p sp n xs b).list
numbered_all_read board m p sp n [] b has = has
numbered_all_read board m p sp n (x ∷ xs) b has =
    numbered_all_read board m p sp n xs (read_words board m p sp n x b)
    (numbered_read_bit board m p sp n x b (is_read board m x) refl has)

numbered_turned : (polarity : Bool) (bit : ℕ) (l : WordList)
    → IsNumbered l → IsNumbered (turned_words polarity bit l).list
numbered_turned true bit l has = numbered_word (Not bit) l refl has
numbered_turned false bit l has = has

numbered_sources : (board : BoardParts) (m : Microword) (p : Parts) (sp line noise d : ℕ) (l : WordList) → IsNumbered l
    → IsNumbered (sources_words board m p sp line noise d l).list
numbered_sources board m p sp line noise d l has =
    let function = function_of m.instruction in
    let a = slice_index p.regs m.a_address in
    let b = slice_index p.regs m.b_address in
    let carry = early_words board p sp line m.carry_in no_bits l in
    let r = r_words board.width (source_of m.instruction) a d carry.list in
    let s = s_words board.width (source_of m.instruction) a b p.q r.list in
    let first = first_words function r.term s.list in
    let second = second_words function s.term first.list in
    numbered_f function r.term s.term first.term second.term carry.term second.list
    (numbered_second function s.term first.list
    (numbered_first function r.term s.list
    (numbered_s board.width (source_of m.instruction) a b p.q r.list
    (numbered_r board.width (source_of m.instruction) a d carry.list
    (numbered_early board p sp line m.carry_in no_bits l has)))))

numbered_line : (side : Side) (cycle : ℕ) (line : Option ℕ) (l : WordList) → IsNumbered l
    → IsNumbered (line_words side cycle line l).list
numbered_line side cycle (Some term) l has = has
numbered_line side cycle None l has = numbered_variable (kind_of side Line cycle) 1 l has

numbered_reading : (board : BoardParts) (m : Microword) (s : Standing) (l : WordList) → IsNumbered l
    → IsNumbered (reading_words board m s l).list
unfolding reading_words
numbered_reading board m s l has =
    let line = line_words s.side s.cycle s.line l in
    let noise = with_variable (kind_of s.side Noise s.cycle) 14 line.list in
    let source = source_words board m.word s.parts s.writes s.taken m.d.from noise.list in
    let d = masked_words board.width m.d.mask source.term source.list in
    let made = sources_words board m s.parts s.sp line.term noise.term d.term d.list in
    let start : BitsMade = record { list = made.list; bits = made.bits } in
    let read = all_read_words board m s.parts s.sp made.sources (bits_in_order board) start in
    let bit = bit_words board s.parts s.sp made.sources m.condition read.bits read.list in
    numbered_turned m.polarity bit.term bit.list
    (numbered_bit board s.parts s.sp made.sources m.condition read.bits read.list
    (numbered_all_read board m s.parts s.sp made.sources (bits_in_order board) start
    (numbered_sources board m s.parts s.sp line.term noise.term d.term d.list
    (numbered_masked board.width m.d.mask source.term source.list
    (numbered_source board m.word s.parts s.writes s.taken m.d.from noise.list
    (numbered_variable (kind_of s.side Noise s.cycle) 14 line.list
    (numbered_line s.side s.cycle s.line l has)))))))

-- ---- numbers of the end

numbered_entry : (none : Bool) (board : BoardParts) (ir : ℕ) (l : WordList) → IsNumbered l
    → IsNumbered (entry_words none board ir l).list
numbered_entry true board ir l has = numbered_constant 0 12 l has
numbered_entry false board ir l has =
    numbered_word (Tab _) _ refl (numbered_part board.width ir board.map_low board.map_bits l has)

numbered_direct : (i : Instruction) (board : BoardParts) (m : Microword) (ir : ℕ) (l : WordList) → IsNumbered l
    → IsNumbered (direct_words i board m ir l).list
numbered_direct Jmap board m ir l has = numbered_entry (board.map_bits == 0) board ir l has
numbered_direct Cjv board m ir l has = numbered_constant board.vector 12 l has
numbered_direct other board m ir l has = numbered_constant m.branch 12 l has

numbered_counter : (rld : Bool) (move : CounterMove) (r direct : ℕ) (l : WordList) → IsNumbered l
    → IsNumbered (counter_words rld move r direct l).list
numbered_counter true move r direct l has = has
numbered_counter false counters.Same r direct l has = has
numbered_counter false counters.Loaded r direct l has = has
numbered_counter false counters.Counted r direct l has =
    let ones = with_constant 4095 12 l in
    let zero = with_constant 0 1 ones.list in
    numbered_word (Sum r ones.term zero.term) zero.list refl
    (numbered_constant 0 1 ones.list (numbered_constant 4095 12 l has))

numbered_next : (from : AddressFrom) (p : Parts) (sp noise direct : ℕ) (empty : Bool) (l : WordList) → (sp == 0) ≡ empty
    → IsNumbered l → IsNumbered (next_words from p sp noise direct l).list
numbered_next addresses.Zero p sp noise direct empty l is has = numbered_constant 0 12 l has
numbered_next addresses.Pc p sp noise direct empty l is has = has
numbered_next addresses.D p sp noise direct empty l is has = has
numbered_next addresses.R p sp noise direct empty l is has = has
numbered_next addresses.F p sp noise direct true l is has = rw is (numbered_word (Part noise 0 12) l refl has)
numbered_next addresses.F p sp noise direct false l is has = rw is has

numbered_leaving : (board : BoardParts) (m : Microword) (p : Parts) (sp noise : ℕ) (effect : Effect) (l : WordList)
    → IsNumbered l → IsNumbered (leaving_words board m p sp noise effect l).list
unfolding leaving_words
numbered_leaving board m p sp noise effect l has =
    let direct = direct_words (instruction_of m.sequencer) board m p.ir l in
    let r = counter_words m.rld effect.counter p.r direct.term direct.list in
    numbered_next effect.next p sp noise direct.term (sp == 0) r.list refl
    (numbered_counter m.rld effect.counter p.r direct.term direct.list
    (numbered_direct (instruction_of m.sequencer) board m p.ir l has))

-- ---- numbers of the edge

numbered_down : (board : BoardParts) (p : Parts) (sp : ℕ) (n : Sources) (link : Bit) (word : ℕ) (b : BitsMade)
    → IsNumbered b.list → IsNumbered (linked_down_words board p sp n link word b).list
numbered_down board p sp n link word b has =
    let high = bit_words board p sp n link b.bits b.list in
    let rest = with_word (Part word 1 (board.width - 1)) high.list in
    numbered_word (Join high.term rest.term) rest.list refl
    (numbered_word (Part word 1 (board.width - 1)) high.list refl (numbered_bit board p sp n link b.bits b.list has))

numbered_up : (board : BoardParts) (p : Parts) (sp : ℕ) (n : Sources) (link : Bit) (word : ℕ) (b : BitsMade)
    → IsNumbered b.list → IsNumbered (linked_up_words board p sp n link word b).list
numbered_up board p sp n link word b has =
    let low = bit_words board p sp n link b.bits b.list in
    let rest = with_word (Part word 0 (board.width - 1)) low.list in
    numbered_word (Join rest.term low.term) rest.list refl
    (numbered_word (Part word 0 (board.width - 1)) low.list refl (numbered_bit board p sp n link b.bits b.list has))

numbered_register : (d : Destination) (board : BoardParts) (m : Microword) (p : Parts) (sp : ℕ) (n : Sources)
    (b : BitsMade)
    → IsNumbered b.list → IsNumbered (register_words d board m p sp n b).list
numbered_register destinations.Qreg board m p sp n b has = has
numbered_register destinations.Nop board m p sp n b has = has
numbered_register destinations.Rama board m p sp n b has = has
numbered_register destinations.Ramf board m p sp n b has = has
numbered_register destinations.Ramqd board m p sp n b has = numbered_down board p sp n m.ram_link n.f b has
numbered_register destinations.Ramd board m p sp n b has = numbered_down board p sp n m.ram_link n.f b has
numbered_register destinations.Ramqu board m p sp n b has = numbered_up board p sp n m.ram_link n.f b has
numbered_register destinations.Ramu board m p sp n b has = numbered_up board p sp n m.ram_link n.f b has

numbered_q : (d : Destination) (board : BoardParts) (m : Microword) (p : Parts) (sp : ℕ) (n : Sources) (b : BitsMade)
    → IsNumbered b.list → IsNumbered (q_words d board m p sp n b).list
numbered_q destinations.Qreg board m p sp n b has = has
numbered_q destinations.Ramqd board m p sp n b has = numbered_down board p sp n m.q_link p.q b has
numbered_q destinations.Ramqu board m p sp n b has = numbered_up board p sp n m.q_link p.q b has
numbered_q destinations.Nop board m p sp n b has = has
numbered_q destinations.Rama board m p sp n b has = has
numbered_q destinations.Ramf board m p sp n b has = has
numbered_q destinations.Ramd board m p sp n b has = has
numbered_q destinations.Ramu board m p sp n b has = has

numbered_loaded : (load : Load) (board : BoardParts) (p : Parts) (sp : ℕ) (n : Sources) (old : ℕ) (b : BitsMade)
    → IsNumbered b.list → IsNumbered (loaded_words load board p sp n old b).list
numbered_loaded loads.Hold board p sp n old b has = has
numbered_loaded loads.Invert board p sp n old b has = numbered_word (Not old) b.list refl has
numbered_loaded loads.XorCarry board p sp n old b has =
    let carry = bit_words board p sp n bits.Carry b.bits b.list in
    numbered_word (Xor old carry.term) carry.list refl (numbered_bit board p sp n bits.Carry b.bits b.list has)
numbered_loaded (loads.Take bit) board p sp n old b has = numbered_bit board p sp n bit b.bits b.list has

numbered_flips : (board : BoardParts) (m : Microword) (p : Parts) (sp : ℕ) (n : Sources) (fs : List FlipFlop)
    (old : List ℕ) (so_far : Loaded)
    → IsNumbered so_far.list → IsNumbered (flips_words board m p sp n fs old so_far).list
numbered_flips board m p sp n [] old so_far has = has
numbered_flips board m p sp n (f ∷ rest) [] so_far has = has
numbered_flips board m p sp n (f ∷ rest) (value ∷ old) so_far has =
    let b : BitsMade = record { list = so_far.list; bits = so_far.bits } in
    numbered_flips board m p sp n rest old
    (with_flip so_far.flips (loaded_words (load_of board m f) board p sp n value b))
    (numbered_loaded (load_of board m f) board p sp n value b has)

numbered_mar : (load : Bool) (board : BoardParts) (old y : ℕ) (l : WordList) → IsNumbered l
    → IsNumbered (mar_words load board old y l).list
numbered_mar true board old y l has = numbered_part board.width y 0 board.address l has
numbered_mar false board old y l has = has

numbered_edge : (board : BoardParts) (m : Microword) (s : Standing) (reading : Reading) (leaving : Leaving)
    (effect : Effect) (next : ℕ) (l : WordList)
    → IsNumbered l → IsNumbered (edge_words board m s reading leaving effect next l).list
unfolding edge_words
numbered_edge board m s reading leaving effect next l has =
    let p = s.parts in
    let n = reading.sources in
    let start : BitsMade = record { list = l; bits = reading.bits } in
    let register = register_words (destination_of m.instruction) board m p s.sp n start in
    let behind : BitsMade = record { list = register.list; bits = register.bits } in
    let q = q_words (destination_of m.instruction) board m p s.sp n behind in
    let first : Loaded = record { list = q.list; bits = q.bits; flips = [] } in
    let loaded = flips_words board m p s.sp n board.flipflop p.flips first in
    let mar = mar_words m.mar_load board p.mar reading.y loaded.list in
    numbered_constant ((next + num m.ci) % 2 ^ 12) 12 mar.list
    (numbered_mar m.mar_load board p.mar reading.y loaded.list
    (numbered_flips board m p s.sp n board.flipflop p.flips first
    (numbered_q (destination_of m.instruction) board m p s.sp n behind
    (numbered_register (destination_of m.instruction) board m p s.sp n start has))))

-- ---- numbers of a cycle

numbered_address : (board : BoardParts) (m : Microword) (s : Standing) (reading : Reading) (leaving : Leaving)
    (effect : Effect) (left so_far : ℕ) (along : List Bool) (l : WordList) → IsNumbered l
    → IsNumbered (along_address board m s reading leaving effect left so_far along l).list
numbered_address board m s reading leaving effect zero so_far along l has =
    numbered_edge board m s reading leaving effect so_far l has
numbered_address board m s reading leaving effect (suc left) so_far [] l has =
    numbered_word (Part leaving.next left 1) l refl has
numbered_address board m s reading leaving effect (suc left) so_far (bit ∷ along) l has =
    numbered_address board m s reading leaving effect left (so_far * 2 + num bit) along
    (with_word (Part leaving.next left 1) l).list (numbered_word (Part leaving.next left 1) l refl has)

numbered_end : (board : BoardParts) (m : Microword) (s : Standing) (reading : Reading) (pass zero_is : Bool)
    (along : List Bool) (l : WordList)
    → IsNumbered l → IsNumbered (along_leaving board m s reading pass zero_is along l).list
numbered_end board m s reading pass zero_is along l has =
    let effect = effect_of (instruction_of m.sequencer) pass zero_is in
    let leaves = leaving_words board m s.parts s.sp reading.sources.noise effect l in
    numbered_address board m s reading leaves.leaving effect 12 0 along leaves.list
    (numbered_leaving board m s.parts s.sp reading.sources.noise effect l has)

numbered_zero_bit : (board : BoardParts) (m : Microword) (s : Standing) (reading : Reading) (pass : Bool)
    (along : List Bool) (l : WordList)
    → IsNumbered l → IsNumbered (along_zero board m s reading pass along l).list
numbered_zero_bit board m s reading pass [] l has = numbered_zero 12 s.parts.r l has
numbered_zero_bit board m s reading pass (bit ∷ along) l has =
    numbered_end board m s reading pass bit along _ (numbered_zero 12 s.parts.r l has)

numbered_counted : (counts : Bool) (board : BoardParts) (m : Microword) (s : Standing) (reading : Reading) (pass : Bool)
    (along : List Bool) (l : WordList) → decides_counter m ≡ counts → IsNumbered l
    → IsNumbered (along_counter board m s reading pass along l).list
numbered_counted true board m s reading pass along l is has =
    rw is (numbered_zero_bit board m s reading pass along l has)
numbered_counted false board m s reading pass along l is has =
    rw is (numbered_end board m s reading pass false along l has)

numbered_test : (board : BoardParts) (m : Microword) (s : Standing) (reading : Reading) (along : List Bool)
    (l : WordList)
    → IsNumbered l → IsNumbered (along_test board m s reading along l).list
numbered_test board m s reading [] l has = has
numbered_test board m s reading (bit ∷ along) l has =
    numbered_counted (decides_counter m) board m s reading bit along l refl has

numbered_pass : (tests : Bool) (board : BoardParts) (m : Microword) (s : Standing) (reading : Reading)
    (along : List Bool) (l : WordList)
    → decides_pass m ≡ tests → IsNumbered l → IsNumbered (along_pass board m s reading along l).list
numbered_pass true board m s reading along l is has = rw is (numbered_test board m s reading along l has)
numbered_pass false board m s reading along l is has =
    rw is (numbered_counted (decides_counter m) board m s reading true along l refl has)

pub cycles_are_numbered : CyclesAreNumbered
unfolding cycle_words
cycles_are_numbered board store start along l has =
    let m = points_of board (word_at board store start.at) in
    let read = reading_words board m start l in
    numbered_pass (decides_pass m) board m start read.reading along read.list refl
    (numbered_reading board m start l has)
