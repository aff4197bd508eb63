-- The words of an expression: those of its parts from left to right, and then its own.
use Rattle.std.specs.Prelude.{ℕ, ◌+◌, ◌-◌, List, [], ◌∷◌, slice_index}
use Rattle.mw_expr.specs.declared.expr.Pair2.{Pair2}
use Rattle.mw_expr.specs.declared.expr.Pair2.TheVariants as sign
use Rattle.mw_expr.specs.declared.shape.Shape.{Shape}
use Rattle.mw_expr.specs.Tree.{Tree, element, constant, complement, pair, choice, part, join, widened, memory, Trees}
use Rattle.mw_expr.specs.Tree.{none, more}
use Rattle.mw_expr.specs.Values.{bits}
use Rattle.mw_term.specs.declared.op.Op.TheVariants.{And, Or, Xor, Eq, Lt, Ite, Join}
use Rattle.mw_term.specs.MemoryRead.{Held}
use Rattle.mw_term.specs.WordList.{WordList, Ended, AllEnded, ended, with_constant, with_word, with_complement}
use Rattle.mw_term.specs.WordList.{with_sum, with_part, with_zeros_above, memory_read_words}

-- A difference is the sum of the first term, the complement of the second and a carry in of 1.
abbrev pub difference_words : (a b : ℕ) → WordList → Ended
difference_words a b l =
    let turned = with_complement b l in
    with_sum a turned.term 1 turned.list

-- Two terms differ where they aren't equal.
abbrev pub unequal_words : (a b : ℕ) → WordList → Ended
unequal_words a b l =
    let same = with_word (Eq a b) l in
    with_complement same.term same.list

-- a sign between two terms
abbrev pub sign_words : Pair2 → (a b : ℕ) → WordList → Ended
sign_words sign.And a b l = with_word (And a b) l
sign_words sign.Or a b l = with_word (Or a b) l
sign_words sign.Xor a b l = with_word (Xor a b) l
sign_words sign.Add a b l = with_sum a b 0 l
sign_words sign.Sub a b l = difference_words a b l
sign_words sign.Same a b l = with_word (Eq a b) l
sign_words sign.Differ a b l = unequal_words a b l
sign_words sign.Less a b l = with_word (Lt a b) l

-- further terms beside a first one, each below the join of those before it
abbrev pub beside_words : (first : ℕ) → List ℕ → WordList → Ended
beside_words first [] l = ended first l
beside_words first (second ∷ rest) l =
    let joined = with_word (Join first second) l in
    beside_words joined.term rest joined.list

-- the joins of some terms, the first highest
abbrev pub join_words : List ℕ → WordList → Ended
join_words [] l = ended 0 l
join_words (first ∷ rest) l = beside_words first rest l

-- the joins of the parts behind the words of all of them
abbrev pub all_joined : AllEnded → Ended
all_joined parts = join_words parts.terms parts.list

-- The words of an expression over terms for its elements, and over a memory with a side's writes.
abbrev mutual
  pub expression_words : Shape → (elements : List ℕ) → (writes : List Held) → Tree → WordList → Ended
  expression_words s elements writes (element n) l = ended (slice_index elements n) l
  expression_words s elements writes (constant number w) l = with_constant number w l
  expression_words s elements writes (complement e) l =
      let operand = expression_words s elements writes e l in
      with_complement operand.term operand.list
  expression_words s elements writes (pair sign a b) l =
      let left = expression_words s elements writes a l in
      let right = expression_words s elements writes b left.list in
      sign_words sign left.term right.term right.list
  expression_words s elements writes (choice c a b) l =
      let condition = expression_words s elements writes c l in
      let first = expression_words s elements writes a condition.list in
      let second = expression_words s elements writes b first.list in
      with_word (Ite condition.term first.term second.term) second.list
  expression_words s elements writes (part e high low) l =
      let whole = expression_words s elements writes e l in
      with_part (bits s e) whole.term low (high - low + 1) whole.list
  expression_words s elements writes (join parts) l = all_joined (words_of_parts s elements writes parts l)
  expression_words s elements writes (widened e w) l =
      let narrow = expression_words s elements writes e l in
      with_zeros_above (bits s e) w narrow.term narrow.list
  expression_words s elements writes (memory address) l =
      let place = expression_words s elements writes address l in
      memory_read_words s.word place.term writes place.list

  -- those of the parts of a join, one after another
  pub words_of_parts : Shape → (elements : List ℕ) → (writes : List Held) → Trees → WordList → AllEnded
  words_of_parts s elements writes none l = record { list = l; terms = [] }
  words_of_parts s elements writes (more tree rest) l =
      let first = expression_words s elements writes tree l in
      let others = words_of_parts s elements writes rest first.list in
      record { list = others.list; terms = first.term ∷ others.terms }
