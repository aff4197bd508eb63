-- What a cycle keeps: each part of the state stays in its range.
use Rattle.std.proofs.Common.{◌≡◌, ℕ, zero, suc, ◌+◌, ◌-◌, ◌*◌, ◌/◌, ◌%◌, ◌^◌, ◌<◌, ◌≤◌, List, [], ◌∷◌, length, Bool}
use Rattle.std.proofs.Common.{true, false, ◌==◌, inl, inr, refl, ap, ◌∙◌, arith}
use Rattle.std.specs.Prelude.{Option, Some, None, nat_lt, if◌then◌else◌, slice_get, slice_index, slice_set}
use Rattle.std.specs.List.{All}
use Rattle.std.proofs.lemmas.Bool.{cases_lt, ltb-true}
use Rattle.std.proofs.lemmas.List.{get_or_past}
use Rattle.std.proofs.lemmas.Nat.{pow_pos, pow-add, or_lt, xor_lt, and_le_l, and_le_r, mod_below}
use Rattle.mw_base.specs.Words.{num, complement, bit_of}
use Rattle.mw_alu.proofs.Shifts.{up_below}
use Rattle.mw_alu.specs.declared.edge.Pins.{Pins}
use Rattle.mw_alu.specs.declared.instruction.Destination.{Destination}
use Rattle.mw_alu.specs.declared.instruction.Destination.TheVariants.{Qreg, Nop, Rama, Ramf, Ramqd, Ramd, Ramqu, Ramu}
use Rattle.mw_alu.specs.declared.instruction.Function.{Function}
use Rattle.mw_alu.specs.declared.instruction.Function.TheVariants.{Add, Subr, Subs, Or, And, Notrs, Exor, Exnor}
use Rattle.mw_alu.specs.declared.instruction.Source.{Source}
use Rattle.mw_alu.specs.declared.instruction.Source.TheVariants.{Aq, Ab, Zq, Zb, Za, Da, Dq, Dz}
use Rattle.mw_alu.specs.Instruction.{source_of, function_of, destination_of}
use Rattle.mw_alu.specs.WholeWord.{r_of, s_of, total, f_of, y_of, down, up, b_of, q_of, alu_of, shift_of}
use Rattle.mw_seq.specs.declared.instruction.AddressFrom.{AddressFrom}
use Rattle.mw_seq.specs.declared.instruction.AddressFrom.TheVariants as from
use Rattle.mw_seq.specs.declared.instruction.CounterMove.{CounterMove}
use Rattle.mw_seq.specs.declared.instruction.CounterMove.TheVariants.{Same, Loaded, Counted}
use Rattle.mw_seq.specs.declared.instruction.Instruction.{Instruction}
use Rattle.mw_seq.specs.declared.instruction.Instruction.TheVariants as codes
use Rattle.mw_seq.specs.declared.instruction.StackMove.{StackMove}
use Rattle.mw_seq.specs.declared.instruction.StackMove.TheVariants.{Held, Pushed, Popped, Cleared}
use Rattle.mw_seq.specs.Instruction.{instruction_of}
use Rattle.mw_seq.specs.Sequencer.{Sequencer, IsSequencer, top, pushed, stack_after, counter_after, address, effect}
use Rattle.mw_seq.specs.Sequencer.{next_of, step_of}
use Rattle.mw_board.specs.declared.bit.DFrom.{DFrom}
use Rattle.mw_board.specs.declared.bit.DFrom.TheVariants as sources
use Rattle.mw_board.specs.declared.control.Control.{Control}
use Rattle.mw_board.specs.declared.control.Control.TheVariants as controls
use Rattle.mw_board.specs.declared.field.NamedField.{NamedField}
use Rattle.mw_board.specs.declared.flipflop.FlipFlop.{FlipFlop}
use Rattle.mw_board.specs.declared.parts.BoardParts.{BoardParts}
use Rattle.mw_board.specs.Depth.{depth_of}
use Rattle.mw_board.specs.Rules.{width_of}
use Rattle.mw_board.specs.Valid.{IsBoard, IsPoint}
use Rattle.mw_alu.specs.declared.answer.AluOut.{AluOut}
use Rattle.mw_cycle.specs.SteadySeries.{Inputs}
use Rattle.mw_cycle.specs.declared.microword.Microword.{Microword}
use Rattle.mw_cycle.specs.declared.state.CycleIn.{CycleIn}
use Rattle.mw_cycle.specs.Control.{in_field, value_at}
use Rattle.mw_cycle.specs.Cycle.{microword_at, from_source, masked, operands_of, answer_of, direct_for, direct_address}
use Rattle.mw_cycle.specs.Cycle.{next_address, pins_of, writes_of, flip_of, flips_from, edge, pass_of, state_after}
use Rattle.mw_cycle.specs.SteadyEnvironment.{Environment, IsEnvironment, given_at}
use Rattle.mw_cycle.specs.Microword.{points_of}
use Rattle.mw_cycle.specs.SteadyRun.{run_of, longer_run}
use Rattle.mw_cycle.specs.State.{BoardState, Fits}
use Rattle.mw_cycle.proofs.Edge.{edge_fits}
use Rattle.mw_cycle.proofs.Ranges.{short_below, bit_below}

-- ---- the Am2901

r_below : (source : Source) (a d most : ℕ) → 0 < most → a < most → d < most → r_of source a d < most
r_below Aq a d most some one other = one
r_below Ab a d most some one other = one
r_below Zq a d most some one other = some
r_below Zb a d most some one other = some
r_below Za a d most some one other = some
r_below Da a d most some one other = other
r_below Dq a d most some one other = other
r_below Dz a d most some one other = other

s_below : (source : Source) (a b q most : ℕ) → 0 < most → a < most → b < most → q < most → s_of source a b q < most
s_below Aq a b q most some a_in b_in q_in = q_in
s_below Ab a b q most some a_in b_in q_in = b_in
s_below Zq a b q most some a_in b_in q_in = q_in
s_below Zb a b q most some a_in b_in q_in = b_in
s_below Za a b q most some a_in b_in q_in = a_in
s_below Da a b q most some a_in b_in q_in = a_in
s_below Dq a b q most some a_in b_in q_in = q_in
s_below Dz a b q most some a_in b_in q_in = some

f_below : (function : Function) (w r s : ℕ) (cn : Bool) → r < 2 ^ w → s < 2 ^ w → f_of function w r s cn < 2 ^ w
unfolding f_of
f_below Or w r s cn r_in s_in = or_lt w r s r_in s_in
f_below And w r s cn r_in s_in = omega (arith, and_le_l r s)
f_below Notrs w r s cn r_in s_in = omega (arith, and_le_r (complement w r) s)
f_below Exor w r s cn r_in s_in = xor_lt w r s r_in s_in
f_below Exnor w r s cn r_in s_in = omega (arith, pow_pos w)
f_below Add w r s cn r_in s_in = mod_below (total Add w r s cn) (2 ^ w) (pow_pos w)
f_below Subr w r s cn r_in s_in = mod_below (total Subr w r s cn) (2 ^ w) (pow_pos w)
f_below Subs w r s cn r_in s_in = mod_below (total Subs w r s cn) (2 ^ w) (pow_pos w)

y_below : (destination : Destination) (a f most : ℕ) → a < most → f < most → y_of destination a f < most
y_below Qreg a f most one other = other
y_below Nop a f most one other = other
y_below Rama a f most one other = one
y_below Ramf a f most one other = other
y_below Ramqd a f most one other = other
y_below Ramd a f most one other = other
y_below Ramqu a f most one other = other
y_below Ramu a f most one other = other

bit_at_most : (b : Bool) → num b ≤ 1
bit_at_most true = omega arith
bit_at_most false = omega arith

down_half : (half size x : ℕ) (high : Bool) → size ≡ 2 * half → x < size → x / 2 + num high * half < size
down_half half size x true same below = omega arith
down_half half size x false same below = omega arith

up_in : (w x : ℕ) (low : Bool) → 1 ≤ w → x < 2 ^ w → up w x low < 2 ^ w
up_in w x low some below = up_below w x (num low) some (bit_at_most low)

down_below : (w x : ℕ) (high : Bool) → 1 ≤ w → x < 2 ^ w → down w x high < 2 ^ w
down_below w x high some below =
    let size : 2 ^ w ≡ 2 * 2 ^ (w - 1) = (let e : w ≡ 1 + (w - 1) = omega arith in ap (λ n. 2 ^ n) e
    ∙ pow-add 2 1 (w - 1)) in
    down_half (2 ^ (w - 1)) (2 ^ w) x high size below

b_below : (destination : Destination) (w f : ℕ) (pins : Pins) → 1 ≤ w → f < 2 ^ w → b_of destination w f pins < 2 ^ w
b_below Qreg w f pins some below = pow_pos w
b_below Nop w f pins some below = pow_pos w
b_below Rama w f pins some below = below
b_below Ramf w f pins some below = below
b_below Ramqd w f pins some below = down_below w f pins.ram_high some below
b_below Ramd w f pins some below = down_below w f pins.ram_high some below
b_below Ramqu w f pins some below = up_in w f pins.ram_low some below
b_below Ramu w f pins some below = up_in w f pins.ram_low some below

q_below : (destination : Destination) (w f q : ℕ) (pins : Pins) → 1 ≤ w → f < 2 ^ w → q < 2 ^ w
    → q_of destination w f q pins < 2 ^ w
q_below Qreg w f q pins some f_in q_in = f_in
q_below Nop w f q pins some f_in q_in = pow_pos w
q_below Rama w f q pins some f_in q_in = pow_pos w
q_below Ramf w f q pins some f_in q_in = pow_pos w
q_below Ramqd w f q pins some f_in q_in = down_below w q pins.q_high some q_in
q_below Ramd w f q pins some f_in q_in = pow_pos w
q_below Ramqu w f q pins some f_in q_in = up_in w q pins.q_low some q_in
q_below Ramu w f q pins some f_in q_in = pow_pos w

-- ---- the Am2910

-- a word put into a list, or not
set_word : (xs : List ℕ) (n v i most : ℕ) → ((k : ℕ) → slice_index xs k < most) → v < most
    → slice_index (slice_set xs n v) i < most
set_word [] n v i most old new = old i
set_word (x ∷ rest) zero v zero most old new = new
set_word (x ∷ rest) zero v (suc i) most old new = old (suc i)
set_word (x ∷ rest) (suc n) v zero most old new = old 0
set_word (x ∷ rest) (suc n) v (suc i) most old new = set_word rest n v i most (λ k. old (suc k)) new

set_length : (xs : List ℕ) (n v : ℕ) → length (slice_set xs n v) ≡ length xs
set_length [] n v = refl
set_length (x ∷ rest) zero v = refl
set_length (x ∷ rest) (suc n) v = omega (arith, set_length rest n v)

-- the words of a stack, how many they are, and the pointer
record IsStack (depth : ℕ) (s : Sequencer) : Type 0 where
  words : (i : ℕ) → slice_index s.stack i < 2 ^ 12
  size : length s.stack ≡ depth
  sp : s.sp ≤ depth

pushed_at : (depth : ℕ) (s : Sequencer) (room : Bool) → nat_lt s.sp depth ≡ room → IsSequencer depth s
    → IsStack depth (if room then record s { stack = slice_set s.stack s.sp s.pc; sp = s.sp + 1 } else record s {
      stack = slice_set s.stack (depth - 1) s.pc;
    })
pushed_at depth s true is fits = record {
  words = λ i. set_word s.stack s.sp s.pc i (2 ^ 12) fits.words fits.pc;
  size = set_length s.stack s.sp s.pc ∙ fits.size;
  sp = omega (arith, ltb-true s.sp depth is);
}
pushed_at depth s false is fits = record {
  words = λ i. set_word s.stack (depth - 1) s.pc i (2 ^ 12) fits.words fits.pc;
  size = set_length s.stack (depth - 1) s.pc ∙ fits.size;
  sp = fits.sp;
}

stack_fits : (move : StackMove) (depth : ℕ) (s : Sequencer) → IsSequencer depth s
    → IsStack depth (stack_after move depth s)
unfolding stack_after pushed
stack_fits Held depth s fits = record { words = fits.words; size = fits.size; sp = fits.sp }
stack_fits Pushed depth s fits = pushed_at depth s (nat_lt s.sp depth) refl fits
stack_fits Popped depth s fits = record { words = fits.words; size = fits.size; sp = omega (arith, fits.sp) }
stack_fits Cleared depth s fits = record { words = fits.words; size = fits.size; sp = omega arith }

counter_below : (move : CounterMove) (d r : ℕ) → d < 2 ^ 12 → r < 2 ^ 12 → counter_after move d r < 2 ^ 12
counter_below Same d r one other = other
counter_below Loaded d r one other = one
counter_below Counted d r one other = omega arith

top_at : (empty : Bool) (word other : ℕ) → word < 2 ^ 12 → other < 2 ^ 12 → (if empty then word else other) < 2 ^ 12
top_at true word other one two = one
top_at false word other one two = two

address_below : (from : AddressFrom) (depth d noise : ℕ) (s : Sequencer) → IsSequencer depth s → d < 2 ^ 12
    → address from d noise s < 2 ^ 12
unfolding top
address_below from.Zero depth d noise s fits below = omega arith
address_below from.Pc depth d noise s fits below = fits.pc
address_below from.D depth d noise s fits below = below
address_below from.R depth d noise s fits below = fits.r
address_below from.F depth d noise s fits below =
    top_at (s.sp == 0) (noise % 2 ^ 12) (slice_index s.stack (s.sp - 1)) (omega arith) (fits.words (s.sp - 1))

next_below : (depth ins : ℕ) (pass : Bool) (d noise : ℕ) (s : Sequencer) → IsSequencer depth s → d < 2 ^ 12
    → next_of ins pass d noise s < 2 ^ 12
unfolding next_of
next_below depth ins pass d noise s fits below = address_below (effect ins pass s).next depth d noise s fits below

sequencer_fits : (depth ins : ℕ) (pass : Bool) (d : ℕ) (ci rld : Bool) (noise : ℕ) (s : Sequencer)
    → IsSequencer depth s → d < 2 ^ 12
    → IsSequencer depth (step_of depth ins pass d ci rld noise s)
unfolding step_of
sequencer_fits depth ins pass d ci rld noise s fits below =
    let stack = stack_fits (effect ins pass s).stack depth s fits in
    record {
      pc = omega arith;
      r = top_at rld d _ below (counter_below (effect ins pass s).counter d s.r below fits.r);
      words = stack.words;
      size = stack.size;
      sp = stack.sp;
    }

-- ---- what a microword has

part_in : (f : NamedField) (word : ℕ) → in_field (Some f) word < 2 ^ f.field.width
part_in f word = mod_below (word / 2 ^ f.field.low) (2 ^ f.field.width) (pow_pos f.field.width)

field_below : (there : Option NamedField) (word bits : ℕ) → width_of there ≤ bits → in_field there word < 2 ^ bits
field_below (Some f) word bits within = short_below (in_field (Some f) word) f.field.width bits within (part_in f word)
field_below None word bits within = pow_pos bits

pub point_below : (fields : List NamedField) (word bits : ℕ) (control : Control) → IsPoint bits fields control
    → value_at fields word control < 2 ^ bits
point_below fields word bits (controls.Field n) is = field_below (slice_get fields n) word bits is.1
point_below fields word bits (controls.Fixed value) is = is

-- ---- D and the direct address

word_of_list : (xs : List ℕ) (most i : ℕ) → 0 < most → All (λ x. x < most) xs → slice_index xs i < most
word_of_list xs most i some all = elim (cases_lt i (length xs)) [
  | inl within ↦ all i 0 within
  | inr past ↦ rw (get_or_past xs i 0 past) some
]

source_below : (board : BoardParts) (word : ℕ) (source : DFrom) (s : BoardState) (given : CycleIn) → IsBoard board
    → Fits board s
    → given.input < 2 ^ board.width → from_source board word source s given < 2 ^ board.width
unfolding from_source
source_below board word sources.Zero s given is fits input = pow_pos board.width
source_below board word sources.Memory s given is fits input = fits.memory s.mar
source_below board word sources.Ir s given is fits input = fits.ir
source_below board word sources.Mar s given is fits input =
    short_below s.mar board.address board.width is.sizes.address_within fits.mar
source_below board word sources.Input s given is fits input = input
source_below board word (sources.Field n) s given is fits input = mod_below (in_field (slice_get board.fields n) word)
    (2 ^ board.width) (pow_pos board.width)
source_below board word (sources.Flip n) s given is fits input = bit_below (bit_of s.flips n) board.width
    (omega (arith, is.sizes.least))

masked_below : (mask : Option ℕ) (d most : ℕ) → d < most → masked mask d < most
masked_below None d most below = below
masked_below (Some mask) d most below = omega (arith, and_le_l d mask)

direct_below : (instruction : Instruction) (board : BoardParts) (m : Microword) (s : BoardState) → IsBoard board
    → m.branch < 2 ^ 12
    → direct_for instruction board m s < 2 ^ 12
direct_below codes.Jmap board m s is branch = word_of_list board.map_entries (2 ^ 12) _ (omega arith) is.map.entries
direct_below codes.Cjv board m s is branch = is.sizes.vector
direct_below codes.Jz board m s is branch = branch
direct_below codes.Cjs board m s is branch = branch
direct_below codes.Cjp board m s is branch = branch
direct_below codes.Push board m s is branch = branch
direct_below codes.Jsrp board m s is branch = branch
direct_below codes.Jrp board m s is branch = branch
direct_below codes.Rfct board m s is branch = branch
direct_below codes.Rpct board m s is branch = branch
direct_below codes.Crtn board m s is branch = branch
direct_below codes.Cjpp board m s is branch = branch
direct_below codes.Ldct board m s is branch = branch
direct_below codes.Loop board m s is branch = branch
direct_below codes.Cont board m s is branch = branch
direct_below codes.Twb board m s is branch = branch

-- ---- flip-flops

flips_below : (board : BoardParts) (m : Microword) (answer : AluOut) (s : BoardState) (given : CycleIn) (n : ℕ)
    (fs : List FlipFlop)
    → flips_from board m answer s given n fs < 2 ^ length fs
unfolding flips_from
flips_below board m answer s given n [] = omega arith
flips_below board m answer s given n (f ∷ rest) =
    let next : length (f ∷ rest) ≡ 1 + length rest = omega arith in
    let size : 2 ^ length (f ∷ rest) ≡ 2 * 2 ^ length rest = ap (λ k. 2 ^ k) next ∙ pow-add 2 1 (length rest) in
    let bit = bit_at_most (flip_of board m n f answer s given) in
    let others = flips_below board m answer s given (n + 1) rest in
    omega (arith, size)

-- ---- a cycle, and runs

cycle_fits : (board : BoardParts) (m : Microword) (s : BoardState) (given : CycleIn) (pass : Bool) → IsBoard board
    → Fits board s
    → given.input < 2 ^ board.width → m.branch < 2 ^ 12
    → Fits board (edge board m (answer_of board m s given) pass s given)
unfolding answer_of operands_of alu_of writes_of shift_of next_address direct_address edge
cycle_fits board m s given pass is fits input branch =
    let w = board.width in
    let a = fits.regs m.a_address in
    let b = fits.regs m.b_address in
    let d = masked_below m.d.mask _ (2 ^ w) (source_below board m.word m.d.from s given is fits input) in
    let r = r_below (source_of m.instruction) _ _ (2 ^ w) (pow_pos w) a d in
    let operand = s_below (source_of m.instruction) _ _ _ (2 ^ w) (pow_pos w) a b fits.q in
    let f = f_below (function_of m.instruction) w _ _ (operands_of board m s given).cin r operand in
    let some : 1 ≤ w = omega (arith, is.sizes.least) in
    let direct = direct_below (instruction_of m.sequencer) board m s is branch in
    edge_fits board m (answer_of board m s given) pass s given fits
    (next_below (depth_of board) m.sequencer pass _ given.noise s.seq fits.seq direct)
    (sequencer_fits (depth_of board) m.sequencer pass _ m.ci m.rld given.noise s.seq fits.seq direct)
    (y_below (destination_of m.instruction) _ _ (2 ^ w) a f)
    (b_below (destination_of m.instruction) w _ (pins_of board m (answer_of board m s given) s given) some f)
    (q_below (destination_of m.instruction) w _ s.q (pins_of board m (answer_of board m s given) s given) some f fits.q)
    (flips_below board m (answer_of board m s given) s given 0 board.flipflop)

pub after_fits : (board : BoardParts) (store : List ℕ) (s : BoardState) (given : CycleIn) → IsBoard board → Fits board s
    → given.input < 2 ^ board.width → Fits board (state_after board store s given)
unfolding state_after points_of
after_fits board store s given is fits input =
    let m = microword_at board store s in
    cycle_fits board m s given (pass_of board m (answer_of board m s given) s given) is fits input
    (point_below board.fields _ 12 board.control.branch is.points.branch)

pub run_fits : (board : BoardParts) (store : List ℕ) (env : Environment) (start : BoardState) (n : ℕ) → IsBoard board
    → IsEnvironment board env → Fits board start → Fits board (run_of board store env start n).state
unfolding run_of longer_run
run_fits board store env start zero is outside fits = fits
run_fits board store env start (suc n) is outside fits =
    let run = run_of board store env start n in
    after_fits board store run.state (given_at env run.clock) is (run_fits board store env start n is outside fits)
    (outside.values Inputs run.clock.taken)
