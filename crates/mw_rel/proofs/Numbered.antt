-- Each term of a start's list, and behind the words of a comparison, that is no constant has a word.
use Rattle.std.proofs.Common.{◌≡◌, ℕ, ◌+◌, List, [], ◌∷◌, refl, subst}
use Rattle.std.specs.Prelude.{Bool, true, false, if◌then◌else◌, Some, None}
use Rattle.std.proofs.lemmas.Option.{same_Some}
use Rattle.mw_expr.specs.declared.shape.Shape.{Shape}
use Rattle.mw_macro.specs.ExpressionWords.{expression_words}
use Rattle.mw_macro.proofs.Numbered.{numbered_expression}
use Rattle.mw_rel.specs.ComparisonWords.{Sides, Subject, event, Compared, compared_in, with_comparison, with_events}
use Rattle.mw_rel.specs.ComparisonWords.{with_line, with_lines, with_memory, is_unlike, all_compared, comparison_words}
use Rattle.mw_rel.specs.ComparisonWords.{ComparisonsAreNumbered}
use Rattle.mw_rel.specs.Free.{is_free}
use Rattle.mw_rel.specs.Lines.{Line}
use Rattle.mw_rel.specs.Relation.{Boundary}
use Rattle.mw_rel.specs.StartWords.{own_words, all_own_words, line_words, lines_words, start_words, StartsAreNumbered}
use Rattle.mw_term.specs.declared.event.SymEvent.{SymEvent}
use Rattle.mw_term.specs.declared.event.SymEvent.TheVariants.{Out, Taken}
use Rattle.mw_term.specs.declared.kinds.WordKind.TheVariants.{Element, Probe}
use Rattle.mw_term.specs.declared.op.Op.TheVariants.{Eq}
use Rattle.mw_term.specs.Numbered.{IsNumbered}
use Rattle.mw_term.specs.WordList.{WordList, AllEnded, list_of, with_constant, with_variable, memory_read_words}
use Rattle.mw_term.proofs.Numbered.{numbered_at_first, numbered_constant, numbered_variable, numbered_word}
use Rattle.mw_term.proofs.Numbered.{numbered_read}

-- ---- a start

free_or_zero : (free : Bool) (number width : ℕ) (l : WordList) → IsNumbered l
    → IsNumbered (if free then with_variable (Element number) width l else with_constant 0 width l).list
free_or_zero true number width l has = numbered_variable (Element number) width l has
free_or_zero false number width l has = numbered_constant 0 width l has

numbered_own : (boundary : Boundary) (number : ℕ) (widths : List ℕ) (l : WordList) → IsNumbered l
    → IsNumbered (all_own_words boundary number widths l).list
numbered_own boundary number [] l has = has
numbered_own boundary number (w ∷ rest) l has =
    numbered_own boundary (number + 1) rest (own_words boundary number w l).list
    (free_or_zero (is_free boundary number) number w l has)

numbered_lines : (s : Shape) (own : List ℕ) (lines : List Line) (so_far : AllEnded) → IsNumbered so_far.list
    → IsNumbered (lines_words s own lines so_far).list
numbered_lines s own [] so_far has = has
numbered_lines s own (l ∷ rest) so_far has =
    numbered_lines s own rest (line_words s own l so_far) (numbered_expression s own [] l.right so_far.list has)

pub numbered_start : StartsAreNumbered
unfolding start_words
numbered_start s boundary =
    let own = all_own_words boundary 0 s.widths (list_of [] [] []) in
    numbered_lines s own.terms boundary.lines own
    (numbered_own boundary 0 s.widths (list_of [] [] []) numbered_at_first)

-- ---- a comparison

numbered_equal : (subject : Subject) (a b : ℕ) (so_far : Compared) → IsNumbered so_far.list
    → IsNumbered (with_comparison subject a b so_far).list
numbered_equal subject a b so_far has = numbered_word (Eq a b) so_far.list refl has

numbered_events : (number : ℕ) (board machine : List SymEvent) (so_far : Compared) → IsNumbered so_far.list
    → IsNumbered (with_events number board machine so_far).list
numbered_events number (Out a ∷ board) (Out b ∷ machine) so_far has =
    numbered_events (number + 1) board machine (with_comparison (event number) a b so_far)
    (numbered_equal (event number) a b so_far has)
numbered_events number (Taken a ∷ board) (Taken b ∷ machine) so_far has =
    numbered_events (number + 1) board machine so_far has
numbered_events number board machine so_far has = has

numbered_line : (s : Shape) (sides : Sides) (l : Line) (so_far : Compared) → IsNumbered so_far.list
    → IsNumbered (with_line s sides l so_far).list
numbered_line s sides l so_far has =
    let right = expression_words s sides.elements sides.machine_writes l.right so_far.list in
    numbered_word (Eq _ right.term) right.list refl
    (numbered_expression s sides.elements sides.machine_writes l.right so_far.list has)

numbered_all_lines : (s : Shape) (sides : Sides) (lines : List Line) (so_far : Compared) → IsNumbered so_far.list
    → IsNumbered (with_lines s sides lines so_far).list
numbered_all_lines s sides [] so_far has = has
numbered_all_lines s sides (l ∷ rest) so_far has =
    numbered_all_lines s sides rest (with_line s sides l so_far) (numbered_line s sides l so_far has)

numbered_memory : (s : Shape) (sides : Sides) (so_far : Compared) → IsNumbered so_far.list
    → IsNumbered (with_memory s sides so_far).list
numbered_memory s sides so_far has =
    let address = with_variable Probe s.address so_far.list in
    let board = memory_read_words s.word address.term sides.board_writes address.list in
    let machine = memory_read_words s.word address.term sides.machine_writes board.list in
    numbered_word (Eq board.term machine.term) machine.list refl
    (numbered_read s.word address.term sides.machine_writes board.list
    (numbered_read s.word address.term sides.board_writes address.list
    (numbered_variable Probe s.address so_far.list has)))

compared_or_not : (unlike : Bool) (all c : Compared) → (if unlike then None else Some all) ≡ Some c
    → IsNumbered all.list → IsNumbered c.list
compared_or_not true all c is has = absurd cc
compared_or_not false all c is has = subst (λ (x : Compared). IsNumbered x.list) (same_Some all c is) has

pub numbered_comparison : ComparisonsAreNumbered
unfolding comparison_words
numbered_comparison s boundary sides l c has is =
    let events = with_events 0 sides.board_events sides.machine_events (compared_in l []) in
    let lines = with_lines s sides boundary.lines events in
    compared_or_not (is_unlike boundary sides) (all_compared s boundary sides l) c is
    (numbered_memory s sides lines
    (numbered_all_lines s sides boundary.lines events
    (numbered_events 0 sides.board_events sides.machine_events (compared_in l []) has)))
