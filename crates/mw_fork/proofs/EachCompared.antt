-- What each comparison of a case's list is: whether two terms are equal, in a list that is the beginning of the whole
-- one.
use Rattle.std.proofs.Common.{List, [], ◌∷◌}
use Rattle.std.specs.Prelude.{slice_index}
use Rattle.mw_expr.specs.declared.shape.Shape.{Shape}
use Rattle.mw_macro.specs.ExpressionWords.{expression_words}
use Rattle.mw_macro.proofs.Numbered.{numbered_expression}
use Rattle.mw_rel.specs.ComparisonWords.{Compared, Sides, all_compared, compared_in, line, with_events, with_line}
use Rattle.mw_rel.specs.ComparisonWords.{with_lines}
use Rattle.mw_rel.specs.Lines.{Line}
use Rattle.mw_rel.specs.Relation.{Boundary}
use Rattle.mw_term.specs.Numbered.{IsNumbered}
use Rattle.mw_term.specs.WordList.{WordList}
use Rattle.mw_compare.proofs.EachCompared.{AreCompared, compared_events, compared_memory, compared_more, compared_on}
use Rattle.mw_compare.proofs.EachCompared.{none_compared}
use Rattle.mw_fork.proofs.LinesGoOn.{front_expression}

compared_line : (s : Shape) (sides : Sides) (l : Line) (so_far : Compared) → AreCompared so_far
    → AreCompared (with_line s sides l so_far)
compared_line s sides l so_far are =
    let right = expression_words s sides.elements sides.machine_writes l.right so_far.list in
    compared_more (line l.left) (slice_index sides.elements l.left) right.term
    (compared_in right.list so_far.comparisons)
    (compared_on so_far right.list (front_expression s sides.elements sides.machine_writes l.right so_far.list)
    (numbered_expression s sides.elements sides.machine_writes l.right so_far.list are.numbered) are)

compared_lines : (s : Shape) (sides : Sides) (lines : List Line) (so_far : Compared) → AreCompared so_far
    → AreCompared (with_lines s sides lines so_far)
compared_lines s sides [] so_far are = are
compared_lines s sides (l ∷ rest) so_far are =
    compared_lines s sides rest (with_line s sides l so_far) (compared_line s sides l so_far are)

-- all of both sides
pub all_are_compared : (s : Shape) (boundary : Boundary) (sides : Sides) (l : WordList) → IsNumbered l
    → AreCompared (all_compared s boundary sides l)
all_are_compared s boundary sides l has =
    let events = with_events 0 sides.board_events sides.machine_events (compared_in l []) in
    compared_memory s sides (with_lines s sides boundary.lines events)
    (compared_lines s sides boundary.lines events
    (compared_events 0 sides.board_events sides.machine_events (compared_in l []) (none_compared l has)))
