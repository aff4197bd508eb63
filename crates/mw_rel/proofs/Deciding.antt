-- What the decided bits of a cycle fix: the next address, and the stack pointer.
use Rattle.std.proofs.Common.{◌≡◌, inl, ℕ, zero, suc, ◌+◌, ◌-◌, ◌*◌, ◌%◌, ◌^◌, ◌<◌, List, [], ◌∷◌, ◌++◌, Bool, true}
use Rattle.std.proofs.Common.{false, not, ◌&&◌, ◌||◌, ◌==◌, refl, sym, ap, ap₂, ◌∙◌, subst, arith}
use Rattle.std.specs.Prelude.{if◌then◌else◌, nat_lt, slice_set}
use Rattle.mw_base.specs.Words.{bit_of, differ, num}
use Rattle.mw_base.proofs.Carries.{low-suc}
use Rattle.mw_term.specs.declared.decided.DecidedKind.{DecidedKind}
use Rattle.mw_term.specs.declared.decided.DecidedKind.TheVariants.{Pass, CounterZero, Next}
use Rattle.mw_seq.specs.declared.instruction.Instruction.{Instruction}
use Rattle.mw_seq.specs.declared.instruction.StackMove.{StackMove}
use Rattle.mw_seq.specs.declared.instruction.StackMove.TheVariants.{Held, Pushed, Popped, Cleared}
use Rattle.mw_seq.specs.Instruction.{instruction_of, effect_of}
use Rattle.mw_seq.specs.Sequencer.{Sequencer, pushed, stack_after, effect, step_of}
use Rattle.mw_board.specs.declared.parts.BoardParts.{BoardParts}
use Rattle.mw_board.specs.Depth.{depth_of}
use Rattle.mw_board.specs.Store.{word_at}
use Rattle.mw_board.specs.Valid.{IsBoard}
use Rattle.mw_term.specs.declared.decided.Decided.{Decided}
use Rattle.mw_cycle.specs.declared.microword.Microword.{Microword}
use Rattle.mw_cycle.specs.declared.state.CycleIn.{CycleIn}
use Rattle.mw_cycle.specs.Cycle.{microword_at, answer_of, bit_value, pass_of, direct_address, next_address, edge}
use Rattle.mw_cycle.specs.Cycle.{state_after}
use Rattle.mw_cycle.specs.Decided.{decided, is_untested, decides_pass, decides_counter, address_bits, pass_bits}
use Rattle.mw_cycle.specs.Decided.{counter_bits, decided_of}
use Rattle.mw_cycle.specs.Microword.{points_of}
use Rattle.mw_cycle.specs.State.{BoardState}
use Rattle.mw_cycle.proofs.Tested.{tests, counts, tests_is, counts_is, untested_same, uncounted_same}
use Rattle.mw_rel.proofs.Cycles.{point_below}
use Rattle.mw_rel.proofs.Parting.{Meet, meet_on, meet_bit}

-- ---- two cycles at one address

-- whether the test passes, by this microword
abbrev passes : BoardParts → Microword → BoardState → CycleIn → Bool
passes board m s given = pass_of board m (answer_of board m s given) s given

-- the next address
abbrev goes_to : BoardParts → Microword → BoardState → CycleIn → ℕ
goes_to board m s given = next_address board m (passes board m s given) s given

-- the decided bits
abbrev bits_by : BoardParts → Microword → BoardState → CycleIn → List Decided
bits_by board m s given =
    pass_bits m (passes board m s given) ++ counter_bits m s ++ address_bits (goes_to board m s given) 12

asked_meet : (asks : Bool) (kind : DecidedKind) (a b : Bool)
    → Meet (if asks then decided kind a ∷ [] else []) (if asks then decided kind b ∷ [] else [])
asked_meet true kind a b = meet_bit kind a b [] [] (inl refl)
asked_meet false kind a b = inl refl

addresses_meet : (a b n : ℕ) → Meet (address_bits a n) (address_bits b n)
addresses_meet a b zero = inl refl
addresses_meet a b (suc n) =
    meet_bit (Next n) (bit_of a n) (bit_of b n) (address_bits a n) (address_bits b n) (addresses_meet a b n)

bits_meet : (board : BoardParts) (m : Microword) (s t : BoardState) (given other : CycleIn)
    → Meet (bits_by board m s given) (bits_by board m t other)
bits_meet board m s t given other =
    meet_on (pass_bits m (passes board m s given) ++ counter_bits m s)
    (pass_bits m (passes board m t other) ++ counter_bits m t)
    (address_bits (goes_to board m s given) 12) (address_bits (goes_to board m t other) 12)
    (meet_on (pass_bits m (passes board m s given)) (pass_bits m (passes board m t other))
    (counter_bits m s) (counter_bits m t)
    (asked_meet (decides_pass m) Pass (passes board m s given) (passes board m t other))
    (asked_meet (decides_counter m) CounterZero (s.seq.r == 0) (t.seq.r == 0)))
    (addresses_meet (goes_to board m s given) (goes_to board m t other) 12)

-- one address has one microword
one_word : (board : BoardParts) (store : List ℕ) (s t : BoardState) → s.at ≡ t.at
    → microword_at board store s ≡ microword_at board store t
one_word board store s t same = ap (λ at. points_of board (word_at board store at)) same

bits_there : (board : BoardParts) (store : List ℕ) (s t : BoardState) (other : CycleIn) → s.at ≡ t.at
    → bits_by board (microword_at board store s) t other ≡ decided_of board store t other
unfolding decided_of
bits_there board store s t other same = ap (λ m. bits_by board m t other) (one_word board store s t same)

-- their bits are one, or part at a bit
pub cycles_meet : (board : BoardParts) (store : List ℕ) (s t : BoardState) (given other : CycleIn) → s.at ≡ t.at
    → Meet (decided_of board store s given) (decided_of board store t other)
cycles_meet board store s t given other same =
    subst (λ xs. Meet xs (decided_of board store t other)) (bits_there board store s s given refl)
    (subst (λ ys. Meet (bits_by board (microword_at board store s) s given) ys) (bits_there board store s t other same)
    (bits_meet board (microword_at board store s) s t given other))

-- ---- what equal bits say

record SameParts (tested counted p q e f : Bool) (xs ys : List Decided) : Type 0 where
  pass : tested ≡ true → p ≡ q
  counter : counted ≡ true → e ≡ f
  rest : xs ≡ ys

parts_same : (tested counted p q e f : Bool) (xs ys : List Decided)
    → (if tested then decided Pass p ∷ [] else []) ++ (if counted then decided CounterZero e ∷ [] else []) ++ xs
    ≡ (if tested then decided Pass q ∷ [] else []) ++ (if counted then decided CounterZero f ∷ [] else []) ++ ys
    → SameParts tested counted p q e f xs ys
parts_same true true p q e f xs ys same =
    let one : decided Pass p ≡ decided Pass q = cc in
    let two : decided CounterZero e ≡ decided CounterZero f = cc in
    let rest : xs ≡ ys = cc in
    record {
      pass = λ h. ap (λ (d : Decided). d.value) one;
      counter = λ h. ap (λ (d : Decided). d.value) two;
      rest = rest;
    }
parts_same true false p q e f xs ys same =
    let one : decided Pass p ≡ decided Pass q = cc in
    let rest : xs ≡ ys = cc in
    record { pass = λ h. ap (λ (d : Decided). d.value) one; counter = λ h. absurd cc; rest = rest }
parts_same false true p q e f xs ys same =
    let two : decided CounterZero e ≡ decided CounterZero f = cc in
    let rest : xs ≡ ys = cc in
    record { pass = λ h. absurd cc; counter = λ h. ap (λ (d : Decided). d.value) two; rest = rest }
parts_same false false p q e f xs ys same =
    record { pass = λ h. absurd cc; counter = λ h. absurd cc; rest = same }

low_same : (a b n : ℕ) → address_bits a n ≡ address_bits b n → a % 2 ^ n ≡ b % 2 ^ n
low_same a b zero same = omega arith
low_same a b (suc n) same =
    let bit : decided (Next n) (bit_of a n) ≡ decided (Next n) (bit_of b n) = cc in
    let rest : address_bits a n ≡ address_bits b n = cc in
    let place : suc n ≡ n + 1 = omega arith in
    let high : bit_of a n ≡ bit_of b n = ap (λ (d : Decided). d.value) bit in
    ap (λ k. a % 2 ^ k) place ∙ low-suc a n
    ∙ ap₂ (λ (top : Bool) (low : ℕ). num top * 2 ^ n + low) high (low_same a b n rest)
    ∙ sym (low-suc b n) ∙ ap (λ k. b % 2 ^ k) (sym place)

address_same : (a b : ℕ) → a < 2 ^ 12 → b < 2 ^ 12 → address_bits a 12 ≡ address_bits b 12 → a ≡ b
address_same a b below other same = omega (arith, low_same a b 12 same)

-- ---- the stack pointer

-- a push, where there is room or not
abbrev pushed_by : (room : Bool) → (depth : ℕ) → Sequencer → Sequencer
pushed_by room depth s =
    if room then record s { stack = slice_set s.stack s.sp s.pc; sp = s.sp + 1 }
    else record s { stack = slice_set s.stack (depth - 1) s.pc }

pointer_pushed : (room : Bool) (depth : ℕ) (s t : Sequencer) → s.sp ≡ t.sp
    → (pushed_by room depth s).sp ≡ (pushed_by room depth t).sp
pointer_pushed true depth s t same = ap (λ n. n + 1) same
pointer_pushed false depth s t same = same

pointer_moved : (move : StackMove) (depth : ℕ) (s t : Sequencer) → s.sp ≡ t.sp
    → (stack_after move depth s).sp ≡ (stack_after move depth t).sp
unfolding stack_after pushed
pointer_moved Held depth s t same = same
pointer_moved Pushed depth s t same =
    pointer_pushed (nat_lt s.sp depth) depth s t same
    ∙ ap (λ (room : Bool). (pushed_by room depth t).sp) (ap (λ n. nat_lt n depth) same)
pointer_moved Popped depth s t same = ap (λ n. n - 1) same
pointer_moved Cleared depth s t same = refl

pass_fixes : (i : Instruction) (asks disabled p q empty : Bool) → tests i ≡ asks
    → (not disabled && asks ≡ true → (disabled || p) ≡ (disabled || q))
    → effect_of i (disabled || p) empty ≡ effect_of i (disabled || q) empty
pass_fixes i asks true p q empty is decides = refl
pass_fixes i true false p q empty is decides = ap (λ (b : Bool). effect_of i b empty) (decides refl)
pass_fixes i false false p q empty is decides = untested_same i p q empty is

counter_fixes : (i : Instruction) (asks pass e f : Bool) → counts i ≡ asks → (asks ≡ true → e ≡ f)
    → effect_of i pass e ≡ effect_of i pass f
counter_fixes i true pass e f is decides = ap (effect_of i pass) (decides refl)
counter_fixes i false pass e f is decides = uncounted_same i pass e f is

-- the entry of the table is fixed
effect_same : (board : BoardParts) (m : Microword) (s t : BoardState) (given other : CycleIn) → m.sequencer < 16
    → SameParts (decides_pass m) (decides_counter m) (passes board m s given) (passes board m t other)
    (s.seq.r == 0) (t.seq.r == 0)
    (address_bits (goes_to board m s given) 12) (address_bits (goes_to board m t other) 12)
    → effect m.sequencer (passes board m s given) s.seq ≡ effect m.sequencer (passes board m t other) t.seq
unfolding pass_of
effect_same board m s t given other below parts =
    let i = instruction_of m.sequencer in
    pass_fixes i (not (is_untested m.sequencer)) m.test_disable
    (differ m.polarity (bit_value board m.condition (answer_of board m s given) s given))
    (differ m.polarity (bit_value board m.condition (answer_of board m t other) t other))
    (s.seq.r == 0) (tests_is m.sequencer below) parts.pass
    ∙ counter_fixes i (decides_counter m) (passes board m t other) (s.seq.r == 0) (t.seq.r == 0)
    (counts_is m.sequencer below) parts.counter

-- ---- after the cycle

-- the pointer by a microword
abbrev pointer_by : BoardParts → Microword → BoardState → CycleIn → ℕ
pointer_by board m s given =
    (step_of (depth_of board) m.sequencer (passes board m s given) (direct_address board m s) m.ci m.rld given.noise
    s.seq).sp

record SameAfter (board : BoardParts) (m : Microword) (s t : BoardState) (given other : CycleIn) : Type 0 where
  at : goes_to board m s given ≡ goes_to board m t other
  sp : pointer_by board m s given ≡ pointer_by board m t other

same_after : (board : BoardParts) (m : Microword) (s t : BoardState) (given other : CycleIn) → m.sequencer < 16
    → s.seq.sp ≡ t.seq.sp → goes_to board m s given < 2 ^ 12 → goes_to board m t other < 2 ^ 12
    → bits_by board m s given ≡ bits_by board m t other → SameAfter board m s t given other
unfolding step_of
same_after board m s t given other below pointer one two same =
    let parts = parts_same (decides_pass m) (decides_counter m) (passes board m s given) (passes board m t other)
    (s.seq.r == 0) (t.seq.r == 0)
    (address_bits (goes_to board m s given) 12) (address_bits (goes_to board m t other) 12) same in
    record {
      at = address_same (goes_to board m s given) (goes_to board m t other) one two parts.rest;
      sp = ap (λ e. (stack_after e.stack (depth_of board) s.seq).sp) (effect_same board m s t given other below parts)
          ∙ pointer_moved (effect m.sequencer (passes board m t other) t.seq).stack (depth_of board) s.seq t.seq
          pointer;
    }

code_below : (board : BoardParts) (store : List ℕ) (s : BoardState) → IsBoard board
    → (microword_at board store s).sequencer < 16
unfolding points_of
code_below board store s is =
    point_below board.fields (word_at board store s.at) 4 board.control.sequencer is.points.sequencer

at_is : (board : BoardParts) (store : List ℕ) (s : BoardState) (given : CycleIn)
    → (state_after board store s given).at ≡ goes_to board (microword_at board store s) s given
unfolding state_after edge
at_is board store s given = refl

sp_is : (board : BoardParts) (store : List ℕ) (s : BoardState) (given : CycleIn)
    → (state_after board store s given).seq.sp ≡ pointer_by board (microword_at board store s) s given
unfolding state_after edge
sp_is board store s given = refl

-- two cycles at one address, with one stack pointer and the same bits, go to one address, with one stack pointer
pub cycles_together : (board : BoardParts) (store : List ℕ) (s t : BoardState) (given other : CycleIn) → IsBoard board
    → s.at ≡ t.at → s.seq.sp ≡ t.seq.sp
    → (state_after board store s given).at < 2 ^ 12 → (state_after board store t other).at < 2 ^ 12
    → decided_of board store s given ≡ decided_of board store t other
    → ((state_after board store s given).at ≡ (state_after board store t other).at)
    × ((state_after board store s given).seq.sp ≡ (state_after board store t other).seq.sp)
cycles_together board store s t given other is at sp one two same =
    let m = microword_at board store s in
    let word : m ≡ microword_at board store t = one_word board store s t at in
    let to_t : (state_after board store t other).at ≡ goes_to board m t other =
    at_is board store t other ∙ ap (λ w. goes_to board w t other) (sym word) in
    let to_sp : (state_after board store t other).seq.sp ≡ pointer_by board m t other =
    sp_is board store t other ∙ ap (λ w. pointer_by board w t other) (sym word) in
    let after = same_after board m s t given other (code_below board store s is) sp
    (subst (λ n. n < 2 ^ 12) (at_is board store s given) one) (subst (λ n. n < 2 ^ 12) to_t two)
    (bits_there board store s s given refl ∙ same ∙ sym (bits_there board store s t other at)) in
    (at_is board store s given ∙ after.at ∙ sym to_t, sp_is board store s given ∙ after.sp ∙ sym to_sp)
