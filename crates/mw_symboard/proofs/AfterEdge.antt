-- The parts of a state after the edge, one by one.
use Rattle.std.proofs.Common.{◌≡◌, inl, inr, ℕ, zero, suc, ◌+◌, ◌-◌, ◌*◌, ◌/◌, ◌%◌, ◌^◌, ◌<◌, ◌≤◌, List, [], ◌∷◌, ◌++◌}
use Rattle.std.proofs.Common.{length, map, slice_index, slice_set, get_or, refl, ap, ap₂, arith, sym, ◌∙◌}
use Rattle.std.proofs.Common.{get_or-set_same, get_or-set_other}
use Rattle.std.specs.Prelude.{Bool, true, false, Option, Some, None, ◌==◌, nat_lt, if◌then◌else◌, slice_get}
use Rattle.std.proofs.lemmas.Bool.{cases_order}
use Rattle.std.proofs.lemmas.Bool.Decides.{nat_tests}
use Rattle.std.proofs.lemmas.Nat.{pow-add, shr-shr}
use Rattle.std.proofs.lemmas.Option.{same_Some}
use Rattle.mw_base.specs.Words.{bit_of, num}
use Rattle.mw_base.proofs.Carries.{num_small}
use Rattle.mw_alu.specs.declared.answer.AluOut.{AluOut}
use Rattle.mw_board.specs.declared.flipflop.FlipFlop.{FlipFlop}
use Rattle.mw_board.specs.declared.parts.BoardParts.{BoardParts}
use Rattle.mw_cycle.specs.declared.microword.Microword.{Microword}
use Rattle.mw_cycle.specs.declared.state.CycleIn.{CycleIn}
use Rattle.mw_cycle.specs.Cycle.{flip_of, flips_from}
use Rattle.mw_cycle.specs.State.{BoardState}
use Rattle.mw_cycle.proofs.Edge.{same_length, words_below}
use Rattle.mw_seq.specs.declared.instruction.StackMove.{StackMove}
use Rattle.mw_seq.specs.declared.instruction.StackMove.TheVariants.{Held, Pushed, Popped, Cleared}
use Rattle.mw_seq.specs.Sequencer.{Sequencer, pushed, stack_after}
use Rattle.mw_term.specs.Assigned.{Given}
use Rattle.mw_term.specs.MemoryRead.{Held as HeldWord}
use Rattle.mw_term.specs.Table.{Table}
use Rattle.mw_term.specs.Values.{term_value}
use Rattle.mw_symmem.specs.Memory.{after, valued}
use Rattle.mw_cycle.specs.EdgeWords.{with_pushed, pushed_word, sp_after}

-- ---- lists

-- an item of a list, whatever stands for none
pub item_is : {A : Type 0} (xs : List A) (k : ℕ) (x none : A) → slice_get xs k ≡ Some x → get_or xs k none ≡ x
item_is [] k x none is = absurd cc
item_is (y ∷ xs) zero x none is = same_Some y x is
item_is (y ∷ xs) (suc k) x none is = item_is xs k x none is

-- one place of two lists takes terms and their values
pub set_both : (terms values : List ℕ) (place term value n : ℕ) (of : ℕ → ℕ) → length values ≡ length terms
    → n < length terms → slice_index values n ≡ of (slice_index terms n) → value ≡ of term
    → slice_index (slice_set values place value) n ≡ of (slice_index (slice_set terms place term) n)
set_both terms values place term value n of same inside before taken = elim (cases_order place n) [
  | inl here ↦
      ap (slice_index (slice_set values place value)) (sym here)
      ∙ get_or-set_same values place value 0 (omega (arith, same)) ∙ taken
      ∙ ap of
      (sym (get_or-set_same terms place term 0 (omega arith)) ∙ ap (slice_index (slice_set terms place term)) here)
  | inr (inl other) ↦
      get_or-set_other values place n value 0 (omega arith) ∙ before
      ∙ ap of (sym (get_or-set_other terms place n term 0 (omega arith)))
  | inr (inr other) ↦
      get_or-set_other values place n value 0 (omega arith) ∙ before
      ∙ ap of (sym (get_or-set_other terms place n term 0 (omega arith)))
]

-- the same, where a place takes something or none does
pub pushed_both : (terms values : List ℕ) (place : Option ℕ) (term value n : ℕ) (of : ℕ → ℕ)
    → length values ≡ length terms → n < length terms → slice_index values n ≡ of (slice_index terms n)
    → value ≡ of term
    → slice_index (with_pushed values place value) n ≡ of (slice_index (with_pushed terms place term) n)
pushed_both terms values None term value n of same inside before taken = before
pushed_both terms values (Some place) term value n of same inside before taken =
    set_both terms values place term value n of same inside before taken

-- ---- the stack

-- the pointer after a move
pub moved_sp : (move : StackMove) (depth : ℕ) (s : Sequencer) → (stack_after move depth s).sp ≡ sp_after move depth s.sp
unfolding stack_after pushed
moved_sp Held depth s = refl
moved_sp Pushed depth s = by_room (nat_lt s.sp depth)
  where
    by_room : (room : Bool)
        → (if room then record s { stack = slice_set s.stack s.sp s.pc; sp = s.sp + 1 }
        else record s { stack = slice_set s.stack (depth - 1) s.pc }).sp
        ≡ (if room then s.sp + 1 else s.sp)
    by_room true = refl
    by_room false = refl
moved_sp Popped depth s = refl
moved_sp Cleared depth s = refl

-- the words after a move
pub moved_words : (move : StackMove) (depth : ℕ) (s : Sequencer)
    → (stack_after move depth s).stack ≡ with_pushed s.stack (pushed_word move depth s.sp) s.pc
unfolding stack_after pushed
moved_words Held depth s = refl
moved_words Pushed depth s = by_room (nat_lt s.sp depth)
  where
    by_room : (room : Bool)
        → (if room then record s { stack = slice_set s.stack s.sp s.pc; sp = s.sp + 1 }
        else record s { stack = slice_set s.stack (depth - 1) s.pc }).stack
        ≡ slice_set s.stack (if room then s.sp else depth - 1) s.pc
    by_room true = refl
    by_room false = refl
moved_words Popped depth s = refl
moved_words Cleared depth s = refl

pub sp_within : (move : StackMove) (depth sp : ℕ) → sp ≤ depth → sp_after move depth sp ≤ depth
sp_within Held depth sp within = within
sp_within Pushed depth sp within = grind (arith, nat_tests)
sp_within Popped depth sp within = omega arith
sp_within Cleared depth sp within = omega arith

pub pushed_below : (place : Option ℕ) (xs : List ℕ) (v n : ℕ) → ((i : ℕ) → slice_index xs i < n) → v < n → (i : ℕ)
    → slice_index (with_pushed xs place v) i < n
pushed_below None xs v n below value i = below i
pushed_below (Some place) xs v n below value i = words_below true xs place v n below value i

pub pushed_length : (place : Option ℕ) (xs : List ℕ) (v n : ℕ) → length xs ≡ n → length (with_pushed xs place v) ≡ n
pushed_length None xs v n size = size
pushed_length (Some place) xs v n size = same_length true xs place v n size

-- ---- flip-flops

low_bit : (b : Bool) (rest : ℕ) → bit_of (num b + 2 * rest) 0 ≡ b
low_bit true rest =
    let one : (1 + 2 * rest) / 2 ^ 0 % 2 ≡ 1 = omega arith in ap (λ (n : ℕ). n == 1) one
low_bit false rest =
    let none : (0 + 2 * rest) / 2 ^ 0 % 2 ≡ 0 = omega arith in ap (λ (n : ℕ). n == 1) none

high_bit : (b : Bool) (rest k : ℕ) → bit_of (num b + 2 * rest) (k + 1) ≡ bit_of rest k
high_bit b rest k =
    let small = num_small b in
    let half : (num b + 2 * rest) / 2 ^ 1 ≡ rest = omega (arith, small) in
    let place : k + 1 ≡ 1 + k = omega arith in
    ap (λ (j : ℕ). bit_of (num b + 2 * rest) j) place
    ∙ ap (λ (n : ℕ). n % 2 == 1) (sym (shr-shr (num b + 2 * rest) 1 k) ∙ ap (λ (n : ℕ). n / 2 ^ k) half)

-- a flip-flop's bit of all
pub flip_bit : (board : BoardParts) (m : Microword) (answer : AluOut) (s : BoardState) (given : CycleIn)
    (fs : List FlipFlop) (j k : ℕ) (f : FlipFlop) → slice_get fs k ≡ Some f
    → bit_of (flips_from board m answer s given j fs) k ≡ flip_of board m (j + k) f answer s given
unfolding flips_from
flip_bit board m answer s given [] j k f is = absurd cc
flip_bit board m answer s given (g ∷ fs) j zero f is =
    let same : g ≡ f = same_Some g f is in
    let place : j ≡ j + 0 = omega arith in
    low_bit (flip_of board m j g answer s given) (flips_from board m answer s given (j + 1) fs)
    ∙ ap₂ (λ (i : ℕ) (h : FlipFlop). flip_of board m i h answer s given) place same
flip_bit board m answer s given (g ∷ fs) j (suc k) f is =
    let next : suc k ≡ k + 1 = omega arith in
    let place : j + 1 + k ≡ j + suc k = omega arith in
    ap (bit_of (num (flip_of board m j g answer s given) + 2 * flips_from board m answer s given (j + 1) fs)) next
    ∙ high_bit (flip_of board m j g answer s given) (flips_from board m answer s given (j + 1) fs) k
    ∙ flip_bit board m answer s given fs (j + 1) k f is
    ∙ ap (λ (i : ℕ). flip_of board m i f answer s given) place

-- all of them have no more bits than there are
pub flips_below : (board : BoardParts) (m : Microword) (answer : AluOut) (s : BoardState) (given : CycleIn)
    (fs : List FlipFlop) (j : ℕ) → flips_from board m answer s given j fs < 2 ^ length fs
unfolding flips_from
flips_below board m answer s given [] j = omega arith
flips_below board m answer s given (f ∷ fs) j =
    let rest = flips_below board m answer s given fs (j + 1) in
    let small = num_small (flip_of board m j f answer s given) in
    let size : 2 ^ length (f ∷ fs) ≡ 2 ^ length fs * 2 =
    ap (λ (n : ℕ). 2 ^ n) (omega arith) ∙ pow-add 2 (length fs) 1 in
    rw size (omega (arith, rest, small))

-- ---- the memory

-- an image after one write more
pub after_one_more : (t : Table) (given : Given) (image : List ℕ) (writes : List HeldWord) (write : HeldWord)
    → after image (map (valued t given) (writes ++ write ∷ []))
    ≡ slice_set (after image (map (valued t given) writes)) (term_value t given write.address)
    (term_value t given write.word)
after_one_more t given image [] write = refl
after_one_more t given image (w ∷ writes) write =
    after_one_more t given (slice_set image (term_value t given w.address) (term_value t given w.word)) writes write
