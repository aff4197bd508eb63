-- Each term of a list that is no constant has a word, whatever an expression or acts add.
use Rattle.std.proofs.Common.{ℕ, ◌+◌, ◌-◌, List, [], ◌∷◌, ◌++◌, length, refl}
use Rattle.std.specs.Prelude.{Bool, true, false, drop, take, if◌then◌else◌, Option, Some, None}
use Rattle.mw_expr.specs.declared.expr.Pair2.{Pair2}
use Rattle.mw_expr.specs.declared.expr.Pair2.TheVariants as sign
use Rattle.mw_expr.specs.declared.shape.Shape.{Shape}
use Rattle.mw_expr.specs.Tree.{element, constant, complement, pair, choice, part, join, widened, memory, Trees, none}
use Rattle.mw_expr.specs.Tree.{more}
use Rattle.mw_expr.specs.Values.{bits}
use Rattle.mw_macro.specs.ExpressionWords.{expression_words, words_of_parts, sign_words, beside_words, join_words}
use Rattle.mw_macro.specs.Laws.{ExpressionsAreNumbered, ActsAreNumbered, StepsAreNumbered}
use Rattle.mw_macro.specs.Statements.{Act, assign, write, put, take_in, choose, nothing, next}
use Rattle.mw_macro.specs.StepWords.{Underway, Come, then_by, act_words, acts_words, condition_words, with_list}
use Rattle.mw_macro.specs.StepWords.{with_zeros, begun_words, step_words}
use Rattle.mw_term.specs.declared.op.Op.TheVariants.{Not, And, Or, Xor, Eq, Lt, Ite, Join}
use Rattle.mw_term.specs.MemoryRead.{Held}
use Rattle.mw_term.specs.Numbered.{IsNumbered}
use Rattle.mw_term.specs.WordList.{WordList, with_constant, with_word}
use Rattle.mw_term.proofs.Numbered.{numbered_constant, numbered_word, numbered_sum, numbered_part, numbered_zeros_above}
use Rattle.mw_term.proofs.Numbered.{numbered_input, numbered_read}

-- ---- expressions

numbered_sign : (s : Pair2) (a b : ℕ) (l : WordList) → IsNumbered l → IsNumbered (sign_words s a b l).list
numbered_sign sign.And a b l has = numbered_word (And a b) l refl has
numbered_sign sign.Or a b l has = numbered_word (Or a b) l refl has
numbered_sign sign.Xor a b l has = numbered_word (Xor a b) l refl has
numbered_sign sign.Add a b l has = numbered_sum a b 0 l has
numbered_sign sign.Sub a b l has =
    numbered_sum a (length l.ops) 1 (with_word (Not b) l).list (numbered_word (Not b) l refl has)
numbered_sign sign.Same a b l has = numbered_word (Eq a b) l refl has
numbered_sign sign.Differ a b l has =
    numbered_word (Not (length l.ops)) (with_word (Eq a b) l).list refl (numbered_word (Eq a b) l refl has)
numbered_sign sign.Less a b l has = numbered_word (Lt a b) l refl has

numbered_beside : (first : ℕ) (rest : List ℕ) (l : WordList) → IsNumbered l
    → IsNumbered (beside_words first rest l).list
numbered_beside first [] l has = has
numbered_beside first (second ∷ rest) l has =
    numbered_beside (length l.ops) rest (with_word (Join first second) l).list
    (numbered_word (Join first second) l refl has)

numbered_joins : (terms : List ℕ) (l : WordList) → IsNumbered l → IsNumbered (join_words terms l).list
numbered_joins [] l has = has
numbered_joins (first ∷ rest) l has = numbered_beside first rest l has

mutual
  pub numbered_expression : ExpressionsAreNumbered
  numbered_expression s elements writes (element n) l has = has
  numbered_expression s elements writes (constant number w) l has = numbered_constant number w l has
  numbered_expression s elements writes (complement e) l has =
      let operand = expression_words s elements writes e l in
      numbered_word (Not operand.term) operand.list refl (numbered_expression s elements writes e l has)
  numbered_expression s elements writes (pair sign a b) l has =
      let left = expression_words s elements writes a l in
      let right = expression_words s elements writes b left.list in
      numbered_sign sign left.term right.term right.list
      (numbered_expression s elements writes b left.list (numbered_expression s elements writes a l has))
  numbered_expression s elements writes (choice c a b) l has =
      let condition = expression_words s elements writes c l in
      let first = expression_words s elements writes a condition.list in
      let second = expression_words s elements writes b first.list in
      numbered_word (Ite condition.term first.term second.term) second.list refl
      (numbered_expression s elements writes b first.list
      (numbered_expression s elements writes a condition.list (numbered_expression s elements writes c l has)))
  numbered_expression s elements writes (part e high low) l has =
      let whole = expression_words s elements writes e l in
      numbered_part (bits s e) whole.term low (high - low + 1) whole.list
      (numbered_expression s elements writes e l has)
  numbered_expression s elements writes (join parts) l has =
      let all = words_of_parts s elements writes parts l in
      numbered_joins all.terms all.list (numbered_parts s elements writes parts l has)
  numbered_expression s elements writes (widened e w) l has =
      let narrow = expression_words s elements writes e l in
      numbered_zeros_above (bits s e) w narrow.term narrow.list (numbered_expression s elements writes e l has)
  numbered_expression s elements writes (memory address) l has =
      let place = expression_words s elements writes address l in
      numbered_read s.word place.term writes place.list (numbered_expression s elements writes address l has)

  numbered_parts : (s : Shape) (elements : List ℕ) (writes : List Held) (parts : Trees) (l : WordList) → IsNumbered l
      → IsNumbered (words_of_parts s elements writes parts l).list
  numbered_parts s elements writes none l has = has
  numbered_parts s elements writes (more tree rest) l has =
      let first = expression_words s elements writes tree l in
      numbered_parts s elements writes rest first.list (numbered_expression s elements writes tree l has)

-- ---- acts

one_or_other : (bit : Bool) (one other : Come) → IsNumbered one.to.list → IsNumbered other.to.list
    → IsNumbered (if bit then one else other).to.list
one_or_other true one other first second = first
one_or_other false one other first second = second

numbered_behind : (asked : Option ℕ) (along : List Bool) (u : Underway) (behind : List Bool → Underway → Come)
    → IsNumbered u.list
    → ((others : List Bool) (v : Underway) → IsNumbered v.list → IsNumbered (behind others v).to.list)
    → IsNumbered (then_by asked along u behind).to.list
numbered_behind None along u behind has keeps = keeps along u has
numbered_behind (Some term) along u behind has keeps = has

mutual
  numbered_act : (s : Shape) (act : Act) (along : List Bool) (u : Underway) → IsNumbered u.list
      → IsNumbered (act_words s act along u).to.list
  numbered_act s (assign target e) along u has = numbered_expression s u.elements u.writes e u.list has
  numbered_act s (write address e) along u has =
      let place = expression_words s u.elements u.writes address u.list in
      numbered_expression s u.elements u.writes e place.list
      (numbered_expression s u.elements u.writes address u.list has)
  numbered_act s (put e) along u has = numbered_expression s u.elements u.writes e u.list has
  numbered_act s (take_in target) along u has = numbered_input u.taken s.word u.list has
  numbered_act s (choose condition one other) [] u has = numbered_expression s u.elements u.writes condition u.list has
  numbered_act s (choose condition one other) (bit ∷ along) u has =
      let asked = condition_words s condition u in
      let inside = with_list asked.list u in
      let is = numbered_expression s u.elements u.writes condition u.list has in
      one_or_other bit (acts_words s one along inside) (acts_words s other along inside)
      (numbered_acts s one along inside is) (numbered_acts s other along inside is)

  pub numbered_acts : ActsAreNumbered
  numbered_acts s nothing along u has = has
  numbered_acts s (next act rest) along u has =
      let c = act_words s act along u in
      numbered_behind c.asked c.bits c.to (acts_words s rest) (numbered_act s act along u has)
      (λ others v is. numbered_acts s rest others v is)

-- ---- a step

numbered_zeros : (widths terms : List ℕ) (l : WordList) → IsNumbered l → IsNumbered (with_zeros widths terms l).list
numbered_zeros [] terms l has = has
numbered_zeros (w ∷ widths) terms l has =
    let zero = with_constant 0 w l in
    numbered_zeros widths (terms ++ zero.term ∷ []) zero.list (numbered_constant 0 w l has)

pub numbered_step : StepsAreNumbered
unfolding step_words
numbered_step d registers request writes along l has =
    numbered_acts d.shape d.acts along (begun_words d registers request writes l)
    (numbered_zeros (take (length d.names - d.registers) (drop d.registers d.shape.widths)) registers l has)
