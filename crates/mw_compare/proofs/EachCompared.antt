-- What each comparison of a list is: whether two terms are equal, in a list that is the beginning of the whole one.
use Rattle.std.proofs.Common.{◌≡◌, ℕ, zero, suc, ◌+◌, List, [], ◌∷◌, length, arith, refl}
use Rattle.std.specs.Prelude.{All, Some, slice_get}
use Rattle.std.proofs.lemmas.List.Elements.{All-append}
use Rattle.mw_expr.specs.declared.shape.Shape.{Shape}
use Rattle.mw_rel.specs.ComparisonWords.{Compared, Comparison, Sides, Subject, compared_in, event}
use Rattle.mw_rel.specs.ComparisonWords.{memory, with_comparison, with_events, with_memory}
use Rattle.mw_term.specs.declared.event.SymEvent.{SymEvent}
use Rattle.mw_term.specs.declared.event.SymEvent.TheVariants.{Out, Taken}
use Rattle.mw_term.specs.declared.kinds.WordKind.TheVariants.{Probe}
use Rattle.mw_term.specs.declared.op.Op.TheVariants.{Eq}
use Rattle.mw_term.specs.Numbered.{IsNumbered}
use Rattle.mw_term.specs.WordList.{WordList, memory_read_words, with_variable}
use Rattle.mw_term.proofs.Numbered.{numbered_read, numbered_variable, numbered_word}
use Rattle.mw_symmem.proofs.Lists.{seam}
use Rattle.mw_compare.specs.Comparing.{IsFrontOf}
use Rattle.mw_compare.proofs.GoingOn.{front_itself, front_read, front_then, front_variable, front_word}

-- A comparison's list is the beginning of a longer one, each of its terms that is no constant has a word, and the
-- comparison's term is whether two terms are equal.
pub record IsComparedIn (l : WordList) (c : Comparison) : Type 0 where
  pub front : IsFrontOf c.list l
  pub numbered : IsNumbered c.list
  pub a : ℕ
  pub b : ℕ
  pub its : slice_get c.list.ops c.term ≡ Some (Eq a b)

-- so is each of some comparisons, and the list so far is numbered too
pub record AreComparedIn (l : WordList) (comparisons : List Comparison) : Type 0 where
  pub numbered : IsNumbered l
  pub each : All (IsComparedIn l) comparisons

abbrev pub AreCompared : Compared → Type 0
AreCompared c = AreComparedIn c.list c.comparisons

pub none_compared : (l : WordList) → IsNumbered l → AreCompared (compared_in l [])
none_compared l has = record { numbered = has; each = λ i d inside. absurd (omega arith) }

-- the list goes on
pub compared_on : (so_far : Compared) (l : WordList) → IsFrontOf so_far.list l → IsNumbered l → AreCompared so_far
    → AreCompared (compared_in l so_far.comparisons)
compared_on so_far l front has are = record {
  numbered = has;
  each = λ i d inside.
      let one = are.each i d inside in
      record {
        front = front_then _ so_far.list l one.front front;
        numbered = one.numbered;
        a = one.a;
        b = one.b;
        its = one.its;
      };
}

only : (l : WordList) (c : Comparison) → IsComparedIn l c → All (IsComparedIn l) (c ∷ [])
only l c is zero d inside = is
only l c is (suc i) d inside = absurd (omega (arith, inside))

-- one comparison more
pub compared_more : (subject : Subject) (a b : ℕ) (so_far : Compared) → AreCompared so_far
    → AreCompared (with_comparison subject a b so_far)
compared_more subject a b so_far are =
    let more = with_comparison subject a b so_far in
    let has = numbered_word (Eq a b) so_far.list refl are.numbered in
    let on = compared_on so_far more.list (front_word (Eq a b) so_far.list) has are in
    let last : IsComparedIn more.list (record { subject = subject; term = length so_far.list.ops; list = more.list }) =
    record {
      front = front_itself more.list;
      numbered = has;
      a = a;
      b = b;
      its = seam so_far.list.ops (Eq a b) [];
    } in
    record {
      numbered = has;
      each = All-append (IsComparedIn more.list) so_far.comparisons _ on.each (only more.list _ last);
    }

-- the words put out
pub compared_events : (number : ℕ) (board machine : List SymEvent) (so_far : Compared) → AreCompared so_far
    → AreCompared (with_events number board machine so_far)
compared_events number (Out a ∷ board) (Out b ∷ machine) so_far are =
    compared_events (number + 1) board machine (with_comparison (event number) a b so_far)
    (compared_more (event number) a b so_far are)
compared_events number (Taken a ∷ board) (Taken b ∷ machine) so_far are =
    compared_events (number + 1) board machine so_far are
compared_events number board machine so_far are = are

-- the memory
pub compared_memory : (s : Shape) (sides : Sides) (so_far : Compared) → AreCompared so_far
    → AreCompared (with_memory s sides so_far)
compared_memory s sides so_far are =
    let address = with_variable Probe s.address so_far.list in
    let board = memory_read_words s.word address.term sides.board_writes address.list in
    let machine = memory_read_words s.word address.term sides.machine_writes board.list in
    compared_more (memory address.term) board.term machine.term (compared_in machine.list so_far.comparisons)
    (compared_on so_far machine.list
    (front_then so_far.list address.list machine.list (front_variable Probe s.address so_far.list)
    (front_then address.list board.list machine.list
    (front_read s.word address.term sides.board_writes address.list)
    (front_read s.word address.term sides.machine_writes board.list)))
    (numbered_read s.word address.term sides.machine_writes board.list
    (numbered_read s.word address.term sides.board_writes address.list
    (numbered_variable Probe s.address so_far.list are.numbered))) are)
