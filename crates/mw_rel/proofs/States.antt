-- A state of a board is what its elements, its address, its stack pointer and its memory are.
use Rattle.std.proofs.Common.{◌≡◌, ℕ, ◌+◌, ◌/◌, ◌%◌, ◌==◌, ◌<◌, ◌^◌, List, length, Bool, true, false, slice_index, refl}
use Rattle.std.proofs.Common.{sym, ap, ap₂, ◌∙◌, arith}
use Rattle.std.proofs.lemmas.Bool.{eqb-true}
use Rattle.std.proofs.lemmas.Bool.Decides.{nat_tests}
use Rattle.std.proofs.lemmas.Grind.{same_number_lists}
use Rattle.std.proofs.lemmas.Nat.Bits.{same_from_bits_below}
use Rattle.mw_base.specs.Words.{num, bit_of}
use Rattle.mw_seq.specs.Sequencer.{Sequencer}
use Rattle.mw_board.specs.declared.parts.BoardParts.{BoardParts}
use Rattle.mw_board.specs.Elements.{element_count}
use Rattle.mw_board.proofs.Elements.{count_of}
use Rattle.mw_cycle.specs.Elements.{pc_number, element, value_of}
use Rattle.mw_cycle.specs.State.{BoardState, Fits}
use Rattle.mw_cycle.proofs.Values.{by_number}

-- ---- what has a number

register_at : (board : BoardParts) (s : BoardState) (n : ℕ) → n < 16
    → element board s n ≡ slice_index s.regs n
register_at board s n below =
    by_number board n (λ e. value_of s e ≡ slice_index s.regs n)
    (λ h. refl) (λ h. absurd (omega arith)) (λ h. absurd (omega arith)) (λ h. absurd (omega arith))
    (λ h g. absurd (omega arith)) (λ h. absurd (omega arith)) (λ h. absurd (omega arith)) (λ h. absurd (omega arith))

q_at : (board : BoardParts) (s : BoardState)
    → element board s 16 ≡ s.q
q_at board s =
    by_number board 16 (λ e. value_of s e ≡ s.q)
    (λ h. absurd (omega arith)) (λ h. refl) (λ h. absurd (omega arith)) (λ h. absurd (omega arith))
    (λ h g. absurd (omega arith)) (λ h. absurd (omega arith)) (λ h. absurd (omega arith)) (λ h. absurd (omega arith))

mar_at : (board : BoardParts) (s : BoardState)
    → element board s 17 ≡ s.mar
mar_at board s =
    by_number board 17 (λ e. value_of s e ≡ s.mar)
    (λ h. absurd (omega arith)) (λ h. absurd (omega arith)) (λ h. refl) (λ h. absurd (omega arith))
    (λ h g. absurd (omega arith)) (λ h. absurd (omega arith)) (λ h. absurd (omega arith)) (λ h. absurd (omega arith))

ir_at : (board : BoardParts) (s : BoardState)
    → element board s 18 ≡ s.ir
ir_at board s =
    by_number board 18 (λ e. value_of s e ≡ s.ir)
    (λ h. absurd (omega arith)) (λ h. absurd (omega arith)) (λ h. absurd (omega arith)) (λ h. refl)
    (λ h g. absurd (omega arith)) (λ h. absurd (omega arith)) (λ h. absurd (omega arith)) (λ h. absurd (omega arith))

flip_at : (board : BoardParts) (s : BoardState) (k : ℕ) → k < length board.flipflop
    → element board s (19 + k) ≡ num (bit_of s.flips k)
flip_at board s k below =
    by_number board (19 + k) (λ e. value_of s e ≡ num (bit_of s.flips k))
    (λ h. absurd (omega arith)) (λ h. absurd (omega arith)) (λ h. absurd (omega arith)) (λ h. absurd (omega arith))
    (λ h g. ap (λ j. num (bit_of s.flips j)) (omega arith)) (λ h. absurd (omega arith)) (λ h. absurd (omega arith))
    (λ h. absurd (omega arith))

pc_at : (board : BoardParts) (s : BoardState)
    → element board s (pc_number board) ≡ s.seq.pc
pc_at board s =
    by_number board (pc_number board) (λ e. value_of s e ≡ s.seq.pc)
    (λ h. absurd (omega arith)) (λ h. absurd (omega arith)) (λ h. absurd (omega arith)) (λ h. absurd (omega arith))
    (λ h g. absurd (omega arith)) (λ h. refl) (λ h. absurd (omega arith)) (λ h. absurd (omega arith))

r_at : (board : BoardParts) (s : BoardState)
    → element board s (pc_number board + 1) ≡ s.seq.r
r_at board s =
    by_number board (pc_number board + 1) (λ e. value_of s e ≡ s.seq.r)
    (λ h. absurd (omega arith)) (λ h. absurd (omega arith)) (λ h. absurd (omega arith)) (λ h. absurd (omega arith))
    (λ h g. absurd (omega arith)) (λ h. absurd (omega arith)) (λ h. refl) (λ h. absurd (omega arith))

word_at : (board : BoardParts) (s : BoardState) (k : ℕ)
    → element board s (pc_number board + 2 + k) ≡ slice_index s.seq.stack k
word_at board s k =
    by_number board (pc_number board + 2 + k) (λ e. value_of s e ≡ slice_index s.seq.stack k)
    (λ h. absurd (omega arith)) (λ h. absurd (omega arith)) (λ h. absurd (omega arith)) (λ h. absurd (omega arith))
    (λ h g. absurd (omega arith)) (λ h. absurd (omega arith)) (λ h. absurd (omega arith))
    (λ h. ap (slice_index s.seq.stack) (omega arith))

-- ---- states

same_num : (a b : Bool) → num a ≡ num b → a ≡ b
same_num true true same = refl
same_num false false same = refl
same_num true false same = cc
same_num false true same = cc

bit_is : (x : ℕ) (b : Bool) → (x % 2 == 1) ≡ b → x % 2 ≡ num b
bit_is x true is = eqb-true (x % 2) 1 is
bit_is x false is = grind (arith, nat_tests)

same_bit : (x y : ℕ) → (x % 2 == 1) ≡ (y % 2 == 1) → x % 2 ≡ y % 2
same_bit x y same = bit_is x (y % 2 == 1) same ∙ sym (bit_is y (y % 2 == 1) refl)

-- each element has one value in both states
abbrev AreAlike : BoardParts → BoardState → BoardState → Type 0
AreAlike board s t = (n : ℕ) → n < element_count board → element board s n ≡ element board t n

same_regs : (board : BoardParts) (s t : BoardState) → Fits board s → Fits board t → AreAlike board s t → s.regs ≡ t.regs
same_regs board s t one other alike =
    same_number_lists s.regs t.regs (one.sixteen ∙ sym other.sixteen)
    (λ n within.
    let below : n < 16 = omega (arith, one.sixteen) in
    sym (register_at board s n below) ∙ alike n (omega (arith, count_of board)) ∙ register_at board t n below)

same_flips : (board : BoardParts) (s t : BoardState) → Fits board s → Fits board t → AreAlike board s t
    → s.flips ≡ t.flips
same_flips board s t one other alike =
    same_from_bits_below (length board.flipflop) s.flips t.flips one.flips other.flips
    (λ k below. same_bit (s.flips / 2 ^ k) (t.flips / 2 ^ k) (same_num _ _ (sym (flip_at board s k below)
    ∙ alike (19 + k) (omega (arith, count_of board)) ∙ flip_at board t k below)))

same_stack : (board : BoardParts) (s t : BoardState) → Fits board s → Fits board t → AreAlike board s t
    → s.seq.stack ≡ t.seq.stack
same_stack board s t one other alike =
    same_number_lists s.seq.stack t.seq.stack (one.seq.size ∙ sym other.seq.size)
    (λ k within. sym (word_at board s k)
    ∙ alike (pc_number board + 2 + k) (omega (arith, count_of board, one.seq.size)) ∙ word_at board t k)

abbrev sequencer : (pc r : ℕ) → List ℕ → ℕ → Sequencer
sequencer pc r stack sp = record { pc = pc; r = r; stack = stack; sp = sp }

abbrev state : ℕ → List ℕ → (q mar ir flips : ℕ) → Sequencer → List ℕ → BoardState
state at regs q mar ir flips seq memory =
    record { at = at; regs = regs; q = q; mar = mar; ir = ir; flips = flips; seq = seq; memory = memory }

same_sequencer : (a b : Sequencer) → a.pc ≡ b.pc → a.r ≡ b.r → a.stack ≡ b.stack → a.sp ≡ b.sp → a ≡ b
same_sequencer a b pc r stack sp = ap₂ (λ x y. sequencer x y a.stack a.sp) pc r
    ∙ ap₂ (λ x y. sequencer b.pc b.r x y) stack sp

-- two states that fit, with the same address, stack pointer and memory, in which each element has one value, are one
pub same_state : (board : BoardParts) (s t : BoardState) → Fits board s → Fits board t → s.at ≡ t.at
    → s.seq.sp ≡ t.seq.sp
    → s.memory ≡ t.memory → AreAlike board s t → s ≡ t
same_state board s t one other at sp memory alike =
    let count = count_of board in
    let q = sym (q_at board s) ∙ alike 16 (omega (arith, count)) ∙ q_at board t in
    let mar = sym (mar_at board s) ∙ alike 17 (omega (arith, count)) ∙ mar_at board t in
    let ir = sym (ir_at board s) ∙ alike 18 (omega (arith, count)) ∙ ir_at board t in
    let pc = sym (pc_at board s) ∙ alike (pc_number board) (omega (arith, count)) ∙ pc_at board t in
    let r = sym (r_at board s) ∙ alike (pc_number board + 1) (omega (arith, count)) ∙ r_at board t in
    let seq = same_sequencer s.seq t.seq pc r (same_stack board s t one other alike) sp in
    let flips = same_flips board s t one other alike in
    ap₂ (λ x y. state x y s.q s.mar s.ir s.flips s.seq s.memory) at (same_regs board s t one other alike)
    ∙ ap₂ (λ x y. state t.at t.regs x y s.ir s.flips s.seq s.memory) q mar
    ∙ ap₂ (λ x y. state t.at t.regs t.q t.mar x y s.seq s.memory) ir flips
    ∙ ap₂ (λ x y. state t.at t.regs t.q t.mar t.ir t.flips x y) seq memory
