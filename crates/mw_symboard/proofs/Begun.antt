-- A symbolic board before its first cycle.
use Rattle.std.proofs.Common.{◌≡◌, ℕ, ◌+◌, ◌<◌, ◌≤◌, ◌^◌, List, [], length, slice_index, refl, ap, arith, sym, subst}
use Rattle.std.specs.Prelude.{None, Some}
use Rattle.mw_board.specs.declared.parts.BoardParts.{BoardParts}
use Rattle.mw_board.specs.Depth.{depth_of}
use Rattle.mw_board.specs.Elements.{element_count}
use Rattle.mw_board.proofs.Elements.{count_of}
use Rattle.mw_cycle.specs.declared.elements.Element.{Element}
use Rattle.mw_cycle.specs.declared.elements.Element.TheVariants.{Register, Q, Mar, Ir, FlipFlop, Pc, R, StackWord}
use Rattle.mw_cycle.specs.Elements.{IsElement, bits_of, element_of, pc_number}
use Rattle.mw_cycle.proofs.Values.{by_number}
use Rattle.mw_term.specs.Table.{Table}
use Rattle.mw_term.specs.declared.word.Word.{Word}
use Rattle.mw_symmem.specs.Memory.{Memory, IsOfWidth}
use Rattle.mw_symboard.specs.Kinds.{HaveWidths}
use Rattle.mw_symboard.specs.Turns.{AreNoLater, IsSymbolic, Symbolic}
use Rattle.mw_symboard.specs.Parts.{AreElements, AreParts, HasElements}
use Rattle.mw_cycle.specs.BoardTerms.{Parts, term_of_part}

-- the number of an element
pub number_of_element : BoardParts → Element → ℕ
number_of_element board (Register n) = n
number_of_element board Q = 16
number_of_element board Mar = 17
number_of_element board Ir = 18
number_of_element board (FlipFlop n) = 19 + n
number_of_element board Pc = pc_number board
number_of_element board R = pc_number board + 1
number_of_element board (StackWord n) = pc_number board + 2 + n

-- what has it is that element
pub has_number : (board : BoardParts) (e : Element)
    → IsElement board e → element_of board (number_of_element board e) ≡ e
unfolding number_of_element
has_number board (Register n) is =
    by_number board n (λ e. e ≡ Register n) (λ h. refl) (λ h. absurd (omega (arith, is, h)))
    (λ h. absurd (omega (arith, is, h)))
    (λ h. absurd (omega (arith, is, h))) (λ h k. absurd (omega (arith, is, h))) (λ h. absurd (omega (arith, is, h)))
    (λ h. absurd (omega (arith, is, h))) (λ h. absurd (omega (arith, is, h)))
has_number board Q is =
    by_number board 16 (λ e. e ≡ Q) (λ h. absurd (omega (arith, h))) (λ h. refl) (λ h. absurd (omega (arith, h)))
    (λ h. absurd (omega (arith, h))) (λ h k. absurd (omega (arith, h))) (λ h. absurd (omega (arith, h)))
    (λ h. absurd (omega (arith, h))) (λ h. absurd (omega (arith, h)))
has_number board Mar is =
    by_number board 17 (λ e. e ≡ Mar) (λ h. absurd (omega (arith, h))) (λ h. absurd (omega (arith, h))) (λ h. refl)
    (λ h. absurd (omega (arith, h))) (λ h k. absurd (omega (arith, h))) (λ h. absurd (omega (arith, h)))
    (λ h. absurd (omega (arith, h))) (λ h. absurd (omega (arith, h)))
has_number board Ir is =
    by_number board 18 (λ e. e ≡ Ir) (λ h. absurd (omega (arith, h))) (λ h. absurd (omega (arith, h)))
    (λ h. absurd (omega (arith, h))) (λ h. refl) (λ h k. absurd (omega (arith, h))) (λ h. absurd (omega (arith, h)))
    (λ h. absurd (omega (arith, h))) (λ h. absurd (omega (arith, h)))
has_number board (FlipFlop n) is =
    by_number board (19 + n) (λ e. e ≡ FlipFlop n) (λ h. absurd (omega (arith, h))) (λ h. absurd (omega (arith, h)))
    (λ h. absurd (omega (arith, h))) (λ h. absurd (omega (arith, h))) (λ h k. ap FlipFlop (omega arith))
    (λ h. absurd (omega (arith, is, h))) (λ h. absurd (omega (arith, is, h))) (λ h. absurd (omega (arith, is, h)))
has_number board Pc is =
    by_number board (pc_number board) (λ e. e ≡ Pc) (λ h. absurd (omega (arith, h))) (λ h. absurd (omega (arith, h)))
    (λ h. absurd (omega (arith, h))) (λ h. absurd (omega (arith, h))) (λ h k. absurd (omega (arith, k))) (λ h. refl)
    (λ h. absurd (omega (arith, h))) (λ h. absurd (omega (arith, h)))
has_number board R is =
    by_number board (pc_number board + 1) (λ e. e ≡ R) (λ h. absurd (omega (arith, h))) (λ h. absurd (omega (arith, h)))
    (λ h. absurd (omega (arith, h))) (λ h. absurd (omega (arith, h))) (λ h k. absurd (omega (arith, k)))
    (λ h. absurd (omega (arith, h))) (λ h. refl) (λ h. absurd (omega (arith, h)))
has_number board (StackWord n) is =
    by_number board (pc_number board + 2 + n) (λ e. e ≡ StackWord n) (λ h. absurd (omega (arith, h)))
    (λ h. absurd (omega (arith, h))) (λ h. absurd (omega (arith, h))) (λ h. absurd (omega (arith, h)))
    (λ h k. absurd (omega (arith, k))) (λ h. absurd (omega (arith, h))) (λ h. absurd (omega (arith, h)))
    (λ h. ap StackWord (omega arith))

-- and the board has it
pub number_below : (board : BoardParts) (e : Element)
    → IsElement board e → number_of_element board e < element_count board
unfolding number_of_element
number_below board (Register n) is = let count = count_of board in omega (arith, count, is)
number_below board Q is = let count = count_of board in omega (arith, count)
number_below board Mar is = let count = count_of board in omega (arith, count)
number_below board Ir is = let count = count_of board in omega (arith, count)
number_below board (FlipFlop n) is = let count = count_of board in omega (arith, count, is)
number_below board Pc is = let count = count_of board in omega (arith, count)
number_below board R is = let count = count_of board in omega (arith, count)
number_below board (StackWord n) is = let count = count_of board in omega (arith, count, is)

-- parts that are some elements' terms, by their numbers
pub parts_of_elements : (board : BoardParts) (t : Table) (es : List ℕ) (p : Parts) → AreElements board t es
    → HasElements board es p → length p.regs ≡ 16 → length p.flips ≡ length board.flipflop → length p.stack ≡ depth_of board → AreParts board t p
parts_of_elements board t es p are same regs flips stack = record {
  sixteen = regs;
  flips = flips;
  stack = stack;
  wide = λ e is.
      let n = number_of_element board e in
      let below = number_below board e is in
      let at = has_number board e is in
      subst (λ (f : Element). IsOfWidth t (bits_of board f) (term_of_part p f)) at
      (subst (λ (x : ℕ). IsOfWidth t (bits_of board (element_of board n)) x) (sym (same n below)) (are n below));
}

-- a board at a place before its first cycle
pub begun_symbolic : (board : BoardParts) (store : List ℕ) (t : Table) (words : List Word) (m : Memory) (o : Symbolic)
    → o.place.at < 2 ^ 12 → o.place.sp ≤ depth_of board → AreParts board t o.place.parts
    → ((term : ℕ) → o.place.line ≡ Some term → IsOfWidth t 1 term) → HaveWidths o.place.side board t words
    → o.place.decided ≡ [] → o.events ≡ [] → o.reading ≡ None → o.leaving ≡ None
    → AreNoLater o.place.side o.place.cycle words → IsSymbolic board store t words m o
begun_symbolic board store t words m o at sp parts line widths decided events read left none =
    let count : length o.place.decided ≡ 0 = ap length decided in
    record {
      at = at;
      sp = sp;
      parts = parts;
      line = line;
      widths = widths;
      events = rw events (λ k e is. absurd cc);
      reading = rw read (decided, none);
      leaving = rw (read, left) (omega (arith, count));
      few = omega (arith, count);
    }
