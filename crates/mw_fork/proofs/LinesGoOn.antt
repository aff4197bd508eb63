-- What is compared goes on with lines: the comparisons so far stay the first ones, and the list so far stays the
-- beginning.
use Rattle.std.proofs.Common.{ℕ, ◌+◌, ◌-◌, List, [], ◌∷◌, length}
use Rattle.std.specs.Prelude.{Bool, true, false, ◌==◌, if◌then◌else◌}
use Rattle.mw_expr.specs.declared.expr.Pair2.{Pair2}
use Rattle.mw_expr.specs.declared.expr.Pair2.TheVariants as sign
use Rattle.mw_expr.specs.declared.shape.Shape.{Shape}
use Rattle.mw_expr.specs.Tree.{Tree, element, constant, complement, pair, choice, part, join, widened, memory, Trees}
use Rattle.mw_expr.specs.Tree.{none, more}
use Rattle.mw_expr.specs.Values.{bits}
use Rattle.mw_macro.specs.ExpressionWords.{beside_words, expression_words, join_words, sign_words, words_of_parts}
use Rattle.mw_rel.specs.ComparisonWords.{Compared, Sides, compared_in, with_line, with_lines}
use Rattle.mw_rel.specs.Lines.{Line}
use Rattle.mw_term.specs.declared.op.Op.TheVariants.{And, Eq, Ite, Join, Lt, Not, Or, Part, Xor, Sum}
use Rattle.mw_term.specs.MemoryRead.{Held}
use Rattle.mw_term.specs.WordList.{WordList, ended, with_constant, with_part, with_sum, with_word, with_zeros_above}
use Rattle.mw_compare.proofs.GoingOn.{GoesOnAs, comparison_goes_on, front_constant, front_itself, front_read, front_then}
use Rattle.mw_compare.proofs.GoingOn.{front_word, goes_itself, goes_listed, goes_then}
use Rattle.mw_fork.specs.Comparing.{IsFrontOf}

-- ---- forms that many words have

pub front_sum : (a b carry : ℕ) (l : WordList) → IsFrontOf l (with_sum a b carry l).list
front_sum a b carry l =
    front_then l (with_constant carry 1 l).list (with_sum a b carry l).list (front_constant carry 1 l)
    (front_word (Sum a b (length l.ops)) (with_constant carry 1 l).list)

part_or_whole : (all : Bool) (whole low width : ℕ) (l : WordList)
    → IsFrontOf l (if all then ended whole l else with_word (Part whole low width) l).list
part_or_whole true whole low width l = front_itself l
part_or_whole false whole low width l = front_word (Part whole low width) l

pub front_part : (whole_width whole low width : ℕ) (l : WordList)
    → IsFrontOf l (with_part whole_width whole low width l).list
front_part whole_width whole low width l = part_or_whole (width == whole_width) whole low width l

wider_or_same : (same : Bool) (width term : ℕ) (l : WordList)
    → IsFrontOf l (if same then ended term l
    else with_word (Join (with_constant 0 width l).term term) (with_constant 0 width l).list).list
wider_or_same true width term l = front_itself l
wider_or_same false width term l =
    let zeros = with_constant 0 width l in
    front_then l zeros.list _ (front_constant 0 width l) (front_word (Join zeros.term term) zeros.list)

pub front_zeros_above : (from to term : ℕ) (l : WordList) → IsFrontOf l (with_zeros_above from to term l).list
front_zeros_above from to term l = wider_or_same (from == to) (to - from) term l

-- ---- expressions

front_sign : (s : Pair2) (a b : ℕ) (l : WordList) → IsFrontOf l (sign_words s a b l).list
front_sign sign.And a b l = front_word (And a b) l
front_sign sign.Or a b l = front_word (Or a b) l
front_sign sign.Xor a b l = front_word (Xor a b) l
front_sign sign.Add a b l = front_sum a b 0 l
front_sign sign.Sub a b l =
    front_then l (with_word (Not b) l).list _ (front_word (Not b) l)
    (front_sum a (length l.ops) 1 (with_word (Not b) l).list)
front_sign sign.Same a b l = front_word (Eq a b) l
front_sign sign.Differ a b l =
    front_then l (with_word (Eq a b) l).list _ (front_word (Eq a b) l)
    (front_word (Not (length l.ops)) (with_word (Eq a b) l).list)
front_sign sign.Less a b l = front_word (Lt a b) l

front_beside : (first : ℕ) (rest : List ℕ) (l : WordList) → IsFrontOf l (beside_words first rest l).list
front_beside first [] l = front_itself l
front_beside first (second ∷ rest) l =
    let joined = with_word (Join first second) l in
    front_then l joined.list _ (front_word (Join first second) l) (front_beside joined.term rest joined.list)

front_joins : (terms : List ℕ) (l : WordList) → IsFrontOf l (join_words terms l).list
front_joins [] l = front_itself l
front_joins (first ∷ rest) l = front_beside first rest l

mutual
  pub front_expression : (s : Shape) (elements : List ℕ) (writes : List Held) (tree : Tree) (l : WordList)
      → IsFrontOf l (expression_words s elements writes tree l).list
  front_expression s elements writes (element n) l = front_itself l
  front_expression s elements writes (constant number w) l = front_constant number w l
  front_expression s elements writes (complement e) l =
      let operand = expression_words s elements writes e l in
      front_then l operand.list _ (front_expression s elements writes e l) (front_word (Not operand.term) operand.list)
  front_expression s elements writes (pair sign a b) l =
      let left = expression_words s elements writes a l in
      let right = expression_words s elements writes b left.list in
      let all = sign_words sign left.term right.term right.list in
      front_then l left.list all.list (front_expression s elements writes a l)
      (front_then left.list right.list all.list (front_expression s elements writes b left.list)
      (front_sign sign left.term right.term right.list))
  front_expression s elements writes (choice c a b) l =
      let condition = expression_words s elements writes c l in
      let first = expression_words s elements writes a condition.list in
      let second = expression_words s elements writes b first.list in
      let all = with_word (Ite condition.term first.term second.term) second.list in
      front_then l condition.list all.list (front_expression s elements writes c l)
      (front_then condition.list first.list all.list (front_expression s elements writes a condition.list)
      (front_then first.list second.list all.list (front_expression s elements writes b first.list)
      (front_word (Ite condition.term first.term second.term) second.list)))
  front_expression s elements writes (part e high low) l =
      let whole = expression_words s elements writes e l in
      front_then l whole.list _ (front_expression s elements writes e l)
      (front_part (bits s e) whole.term low (high - low + 1) whole.list)
  front_expression s elements writes (join parts) l =
      let all = words_of_parts s elements writes parts l in
      front_then l all.list _ (front_parts s elements writes parts l) (front_joins all.terms all.list)
  front_expression s elements writes (widened e w) l =
      let narrow = expression_words s elements writes e l in
      front_then l narrow.list _ (front_expression s elements writes e l)
      (front_zeros_above (bits s e) w narrow.term narrow.list)
  front_expression s elements writes (memory address) l =
      let place = expression_words s elements writes address l in
      front_then l place.list _ (front_expression s elements writes address l)
      (front_read s.word place.term writes place.list)

  front_parts : (s : Shape) (elements : List ℕ) (writes : List Held) (parts : Trees) (l : WordList)
      → IsFrontOf l (words_of_parts s elements writes parts l).list
  front_parts s elements writes none l = front_itself l
  front_parts s elements writes (more tree rest) l =
      let first = expression_words s elements writes tree l in
      front_then l first.list _ (front_expression s elements writes tree l)
      (front_parts s elements writes rest first.list)

-- ---- lines

pub line_goes_on : (s : Shape) (sides : Sides) (l : Line) (so_far : Compared)
    → GoesOnAs so_far (with_line s sides l so_far)
line_goes_on s sides l so_far =
    let right = expression_words s sides.elements sides.machine_writes l.right so_far.list in
    let listed = compared_in right.list so_far.comparisons in
    goes_then so_far listed _
    (goes_listed so_far right.list (front_expression s sides.elements sides.machine_writes l.right so_far.list))
    (comparison_goes_on _ _ right.term listed)

pub lines_go_on : (s : Shape) (sides : Sides) (lines : List Line) (so_far : Compared)
    → GoesOnAs so_far (with_lines s sides lines so_far)
lines_go_on s sides [] so_far = goes_itself so_far
lines_go_on s sides (l ∷ rest) so_far =
    let next = with_line s sides l so_far in
    goes_then so_far next _ (line_goes_on s sides l so_far) (lines_go_on s sides rest next)
