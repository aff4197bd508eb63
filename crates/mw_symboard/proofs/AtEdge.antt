-- What the parts of a board are after an edge.
use Rattle.std.proofs.Common.{◌≡◌, ℕ, ◌<◌, ◌≤◌, ◌==◌, List, length, slice_index, slice_set, Bool, true, false, Option}
use Rattle.std.proofs.Common.{Some, None, IfSome, if◌then◌else◌, refl, sym, subst, ◌∙◌, ap, arith, length-set}
use Rattle.mw_board.specs.declared.parts.BoardParts.{BoardParts}
use Rattle.mw_cycle.specs.declared.elements.Element.{Element}
use Rattle.mw_cycle.specs.declared.elements.Element.TheVariants.{Register, Q, Mar, Ir, FlipFlop, Pc, R, StackWord}
use Rattle.mw_cycle.specs.Elements.{IsElement, bits_of}
use Rattle.mw_term.specs.Table.{Table, Extends}
use Rattle.mw_symmem.specs.Memory.{IsOfWidth}
use Rattle.mw_symmem.proofs.Meaning.{set_at}
use Rattle.mw_symboard.specs.Cycle.{IsMar}
use Rattle.mw_cycle.specs.EdgeWords.{or_taken, with_pushed, with_taken}
use Rattle.mw_symboard.specs.Parts.{AreParts}
use Rattle.mw_cycle.specs.BoardTerms.{Parts, term_of_part}
use Rattle.mw_symboard.proofs.Standing.{part_stays}

-- ---- one item taken

chosen_wide : (t : Table) (w : ℕ) (b : Bool) (v x : ℕ) → IsOfWidth t w v → IsOfWidth t w x
    → IsOfWidth t w (if b then v else x)
chosen_wide t w true v x new old = new
chosen_wide t w false v x new old = old

set_wide : (t : Table) (w : ℕ) (xs : List ℕ) (i v j : ℕ) → i < length xs → IsOfWidth t w v
    → IsOfWidth t w (slice_index xs j) → IsOfWidth t w (slice_index (slice_set xs i v) j)
set_wide t w xs i v j inside new old =
    subst (λ x. IsOfWidth t w x) (sym (set_at xs i v j inside)) (chosen_wide t w (j == i) v (slice_index xs j) new old)

taken_wide : (t : Table) (w : ℕ) (xs : List ℕ) (i : ℕ) (taken : Option ℕ) (j : ℕ) → i < length xs
    → IfSome taken (IsOfWidth t w) → IsOfWidth t w (slice_index xs j)
    → IsOfWidth t w (slice_index (with_taken xs i taken) j)
taken_wide t w xs i None j inside new old = old
taken_wide t w xs i (Some v) j inside new old = set_wide t w xs i v j inside new old

or_taken_wide : (t : Table) (w x : ℕ) (taken : Option ℕ) → IfSome taken (IsOfWidth t w) → IsOfWidth t w x
    → IsOfWidth t w (or_taken x taken)
or_taken_wide t w x None new old = old
or_taken_wide t w x (Some v) new old = new

pushed_wide : (t : Table) (w : ℕ) (xs : List ℕ) (place : Option ℕ) (v j : ℕ) → IfSome place (λ n. n < length xs)
    → IsOfWidth t w v → IsOfWidth t w (slice_index xs j) → IsOfWidth t w (slice_index (with_pushed xs place v) j)
pushed_wide t w xs None v j inside new old = old
pushed_wide t w xs (Some i) v j inside new old = set_wide t w xs i v j inside new old

taken_length : (xs : List ℕ) (i : ℕ) (taken : Option ℕ) → length (with_taken xs i taken) ≡ length xs
taken_length xs i None = refl
taken_length xs i (Some v) = length-set xs i v

pushed_length : (xs : List ℕ) (place : Option ℕ) (v : ℕ) → length (with_pushed xs place v) ≡ length xs
pushed_length xs None v = refl
pushed_length xs (Some i) v = length-set xs i v

-- what some terms are wide, each of those that are taken later
pub some_later : (told tnew : Table) (w : ℕ) (o : Option ℕ)
    → ((term : ℕ) → IsOfWidth told w term → IsOfWidth tnew w term)
    → IfSome o (IsOfWidth told w) → IfSome o (IsOfWidth tnew w)
some_later told tnew w None later is = is
some_later told tnew w (Some v) later is = later v is

-- ---- the stack

-- a stack has a word
-- ---- the parts

-- the address register is what it was in a table with more terms
pub mar_stays : (load : Bool) (board : BoardParts) (told tnew : Table) (old y term : ℕ) → Extends told tnew
    → IsMar load board told old y term → IsMar load board tnew old y term
mar_stays true board told tnew old y term extends is =
    part_stays told tnew board.width y 0 board.address term extends is
mar_stays false board told tnew old y term extends is = is

pub loaded_wide : (t : Table) (w : ℕ) (load : Bool) (y old : ℕ) → IsOfWidth t w y → IsOfWidth t w old
    → IsOfWidth t w (if load then y else old)
loaded_wide t w load y old new before = chosen_wide t w load y old new before

-- what the parts take, all of its width
pub record AreTaken (board : BoardParts) (t : Table) (old : Parts) (b : ℕ) (written taken pushed : Option ℕ)
    (new : Parts) : Type 0 where
  pub b_in : b < 16
  pub regs : new.regs ≡ with_taken old.regs b written
  pub written_wide : IfSome written (IsOfWidth t board.width)
  pub q : new.q ≡ or_taken old.q taken
  pub taken_wide : IfSome taken (IsOfWidth t board.width)
  pub mar : IsOfWidth t board.address new.mar
  pub ir : IsOfWidth t board.width new.ir
  pub count : length new.flips ≡ length board.flipflop
  pub flips : (k : ℕ) → k < length board.flipflop → IsOfWidth t 1 (slice_index new.flips k)
  pub pc : IsOfWidth t 12 new.pc
  pub r : IsOfWidth t 12 new.r
  pub stack : new.stack ≡ with_pushed old.stack pushed old.pc
  pub inside : IfSome pushed (λ n. n < length old.stack)

module _ (board : BoardParts) (t : Table) (old : Parts) (b : ℕ) (written taken pushed : Option ℕ) (new : Parts)
    (before : AreParts board t old) (are : AreTaken board t old b written taken pushed new) where
  each : (e : Element) → IsElement board e → IsOfWidth t (bits_of board e) (term_of_part new e)
  each (Register n) inside =
      subst (λ regs. IsOfWidth t board.width (slice_index regs n)) (sym are.regs)
      (taken_wide t board.width old.regs b written n (omega (arith, before.sixteen, are.b_in)) are.written_wide
      (before.wide (Register n) inside))
  each Q inside =
      subst (λ q. IsOfWidth t board.width q) (sym are.q)
      (or_taken_wide t board.width old.q taken are.taken_wide (before.wide Q inside))
  each Mar inside = are.mar
  each Ir inside = are.ir
  each (FlipFlop n) inside = are.flips n inside
  each Pc inside = are.pc
  each R inside = are.r
  each (StackWord n) inside =
      subst (λ words. IsOfWidth t 12 (slice_index words n)) (sym are.stack)
      (pushed_wide t 12 old.stack pushed old.pc n are.inside (before.wide Pc tt) (before.wide (StackWord n) inside))

  -- the parts after an edge are parts of the board
  pub parts_kept : AreParts board t new
  parts_kept = record {
    sixteen = ap length are.regs ∙ taken_length old.regs b written ∙ before.sixteen;
    flips = are.count;
    stack = ap length are.stack ∙ pushed_length old.stack pushed old.pc ∙ before.stack;
    wide = each;
  }
