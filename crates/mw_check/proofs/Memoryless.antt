-- A tree that reads no memory is the same over every memory.
use Rattle.std.proofs.Common.{◌≡◌, ℕ, ◌+◌, ◌-◌, List, ◌∷◌, refl, ap, ap₂, arith, ◌∙◌}
use Rattle.std.specs.Prelude.{Bool, true, false, ◌||◌, ◌==◌, if◌then◌else◌, unwrap_or, slice_get}
use Rattle.mw_base.specs.Words as words
use Rattle.mw_expr.specs.declared.shape.Shape.{Shape}
use Rattle.mw_expr.specs.Tree.{Tree, element, constant, complement, pair, choice, part, join, widened, memory, Trees}
use Rattle.mw_expr.specs.Tree.{none, more}
use Rattle.mw_expr.specs.Values.{value, joined, bits, pair_value, reads_memory, read_memory}
use Rattle.mw_expr.specs.Widths.{width, total_width, element_width, pair_width, choice_width, part_width, added}
use Rattle.mw_expr.specs.Widths.{join_width, widened_width, count}
use Rattle.mw_macro.specs.Counts.{reads, reads_in}
use Rattle.mw_macro.specs.ExpressionWords.{expression_words, words_of_parts, sign_words, all_joined}
use Rattle.mw_term.specs.declared.op.Op.TheVariants.{Ite}
use Rattle.mw_term.specs.MemoryRead.{Held}
use Rattle.mw_term.specs.WordList.{WordList, Ended, AllEnded, with_word, with_complement, with_part, with_zeros_above}

-- where one of two reads no memory, neither does
pub no_read : (a b : Bool) → (a || b) ≡ false → (a ≡ false) × (b ≡ false)
no_read true b is = absurd cc
no_read false b is = (refl, is)

-- ---- reads

mutual
  pub reads_none : (tree : Tree) → reads_memory tree ≡ false → reads tree ≡ 0
  reads_none (element n) free = refl
  reads_none (constant number w) free = refl
  reads_none (complement e) free = reads_none e free
  reads_none (pair sign a b) free =
      let no = no_read (reads_memory a) (reads_memory b) free in
      omega (arith, reads_none a no.0, reads_none b no.1)
  reads_none (choice c a b) free =
      let no = no_read (reads_memory c) (reads_memory a || reads_memory b) free in
      let both = no_read (reads_memory a) (reads_memory b) no.1 in
      omega (arith, reads_none c no.0, reads_none a both.0, reads_none b both.1)
  reads_none (part e high low) free = reads_none e free
  reads_none (join parts) free = reads_none_in parts free
  reads_none (widened e w) free = reads_none e free
  reads_none (memory address) free = absurd cc

  reads_none_in : (parts : Trees) → read_memory parts ≡ false → reads_in parts ≡ 0
  reads_none_in none free = refl
  reads_none_in (more tree rest) free =
      let no = no_read (reads_memory tree) (read_memory rest) free in
      omega (arith, reads_none tree no.0, reads_none_in rest no.1)

-- ---- widths

mutual
  pub width_free : (s t : Shape) → s.widths ≡ t.widths → (tree : Tree) → reads_memory tree ≡ false
      → width s tree ≡ width t tree
  width_free s t same (element n) free = ap (λ (ws : List ℕ). element_width (slice_get ws n)) same
  width_free s t same (constant number w) free = refl
  width_free s t same (complement e) free = width_free s t same e free
  width_free s t same (pair sign a b) free =
      let no = no_read (reads_memory a) (reads_memory b) free in
      ap₂ (λ x y. pair_width sign x y) (width_free s t same a no.0) (width_free s t same b no.1)
  width_free s t same (choice c a b) free =
      let no = no_read (reads_memory c) (reads_memory a || reads_memory b) free in
      let both = no_read (reads_memory a) (reads_memory b) no.1 in
      ap (λ x. choice_width x (width s a) (width s b)) (width_free s t same c no.0)
      ∙ ap₂ (λ x y. choice_width (width t c) x y) (width_free s t same a both.0) (width_free s t same b both.1)
  width_free s t same (part e high low) free = ap (λ x. part_width high low x) (width_free s t same e free)
  width_free s t same (join parts) free = ap (λ x. join_width (count parts) x) (total_free s t same parts free)
  width_free s t same (widened e w) free = ap (λ x. widened_width w x) (width_free s t same e free)
  width_free s t same (memory address) free = absurd cc

  pub total_free : (s t : Shape) → s.widths ≡ t.widths → (parts : Trees) → read_memory parts ≡ false
      → total_width s parts ≡ total_width t parts
  total_free s t same none free = refl
  total_free s t same (more tree rest) free =
      let no = no_read (reads_memory tree) (read_memory rest) free in
      ap₂ added (width_free s t same tree no.0) (total_free s t same rest no.1)

bits_free : (s t : Shape) → s.widths ≡ t.widths → (tree : Tree) → reads_memory tree ≡ false → bits s tree ≡ bits t tree
bits_free s t same tree free = ap (λ o. unwrap_or o 0) (width_free s t same tree free)

-- ---- values

mutual
  pub value_free : (s t : Shape) (values i j : List ℕ) → s.widths ≡ t.widths → (tree : Tree) → reads_memory tree ≡ false
      → value s values i tree ≡ value t values j tree
  value_free s t values i j same (element n) free = refl
  value_free s t values i j same (constant number w) free = refl
  value_free s t values i j same (complement e) free =
      ap₂ words.complement (bits_free s t same e free) (value_free s t values i j same e free)
  value_free s t values i j same (pair sign a b) free =
      let no = no_read (reads_memory a) (reads_memory b) free in
      ap (λ w. pair_value sign w (value s values i a) (value s values i b)) (bits_free s t same a no.0)
      ∙ ap₂ (λ x y. pair_value sign (bits t a) x y) (value_free s t values i j same a no.0)
      (value_free s t values i j same b no.1)
  value_free s t values i j same (choice c a b) free =
      let no = no_read (reads_memory c) (reads_memory a || reads_memory b) free in
      let both = no_read (reads_memory a) (reads_memory b) no.1 in
      ap (λ x. if x == 1 then value s values i a else value s values i b) (value_free s t values i j same c no.0)
      ∙ ap₂ (λ (x y : ℕ). if value t values j c == 1 then x else y) (value_free s t values i j same a both.0)
      (value_free s t values i j same b both.1)
  value_free s t values i j same (part e high low) free =
      ap (λ x. words.part low (high - low + 1) x) (value_free s t values i j same e free)
  value_free s t values i j same (join parts) free = joined_free s t values i j same parts free
  value_free s t values i j same (widened e w) free = value_free s t values i j same e free
  value_free s t values i j same (memory address) free = absurd cc

  joined_free : (s t : Shape) (values i j : List ℕ) → s.widths ≡ t.widths → (parts : Trees) → read_memory parts ≡ false
      → joined s values i parts ≡ joined t values j parts
  joined_free s t values i j same none free = refl
  joined_free s t values i j same (more tree rest) free =
      let no = no_read (reads_memory tree) (read_memory rest) free in
      ap (λ o. words.join (unwrap_or o 0) (value s values i tree) (joined s values i rest))
      (total_free s t same rest no.1)
      ∙ ap₂ (λ x y. words.join (unwrap_or (total_width t rest) 0) x y) (value_free s t values i j same tree no.0)
      (joined_free s t values i j same rest no.1)

-- ---- words

mutual
  pub words_free : (s t : Shape) (elements : List ℕ) (writes others : List Held) → s.widths ≡ t.widths → (tree : Tree)
      → reads_memory tree ≡ false → (l : WordList)
      → expression_words s elements writes tree l ≡ expression_words t elements others tree l
  words_free s t elements writes others same (element n) free l = refl
  words_free s t elements writes others same (constant number w) free l = refl
  words_free s t elements writes others same (complement e) free l =
      ap (λ (x : Ended). with_complement x.term x.list) (words_free s t elements writes others same e free l)
  words_free s t elements writes others same (pair sign a b) free l =
      let no = no_read (reads_memory a) (reads_memory b) free in
      let left = expression_words t elements others a l in
      ap (λ (x : Ended). sign_words sign x.term (expression_words s elements writes b x.list).term
      (expression_words s elements writes b x.list).list) (words_free s t elements writes others same a no.0 l)
      ∙ ap (λ (y : Ended). sign_words sign left.term y.term y.list)
      (words_free s t elements writes others same b no.1 left.list)
  words_free s t elements writes others same (choice c a b) free l =
      let no = no_read (reads_memory c) (reads_memory a || reads_memory b) free in
      let both = no_read (reads_memory a) (reads_memory b) no.1 in
      let condition = expression_words t elements others c l in
      let first = expression_words t elements others a condition.list in
      let one = λ (x : Ended). expression_words s elements writes a x.list in
      let other = λ (x : Ended). expression_words s elements writes b x.list in
      ap (λ (x : Ended). with_word (Ite x.term (one x).term (other (one x)).term) (other (one x)).list)
      (words_free s t elements writes others same c no.0 l)
      ∙ ap (λ (y : Ended). with_word (Ite condition.term y.term (other y).term) (other y).list)
      (words_free s t elements writes others same a both.0 condition.list)
      ∙ ap (λ (z : Ended). with_word (Ite condition.term first.term z.term) z.list)
      (words_free s t elements writes others same b both.1 first.list)
  words_free s t elements writes others same (part e high low) free l =
      ap (λ w. with_part w (expression_words s elements writes e l).term low (high - low + 1)
      (expression_words s elements writes e l).list) (bits_free s t same e free)
      ∙ ap (λ (x : Ended). with_part (bits t e) x.term low (high - low + 1) x.list)
      (words_free s t elements writes others same e free l)
  words_free s t elements writes others same (join parts) free l =
      ap all_joined (parts_free s t elements writes others same parts free l)
  words_free s t elements writes others same (widened e w) free l =
      ap (λ v. with_zeros_above v w (expression_words s elements writes e l).term
      (expression_words s elements writes e l).list) (bits_free s t same e free)
      ∙ ap (λ (x : Ended). with_zeros_above (bits t e) w x.term x.list)
      (words_free s t elements writes others same e free l)
  words_free s t elements writes others same (memory address) free l = absurd cc

  parts_free : (s t : Shape) (elements : List ℕ) (writes others : List Held) → s.widths ≡ t.widths → (parts : Trees)
      → read_memory parts ≡ false → (l : WordList)
      → words_of_parts s elements writes parts l ≡ words_of_parts t elements others parts l
  parts_free s t elements writes others same none free l = refl
  parts_free s t elements writes others same (more tree rest) free l =
      let no = no_read (reads_memory tree) (read_memory rest) free in
      let first = expression_words t elements others tree l in
      ap (λ (x : Ended). parts_with x (words_of_parts s elements writes rest x.list))
      (words_free s t elements writes others same tree no.0 l)
      ∙ ap (λ (y : AllEnded). parts_with first y) (parts_free s t elements writes others same rest no.1 first.list)
    where
      parts_with : Ended → AllEnded → AllEnded
      parts_with first others = record { list = others.list; terms = first.term ∷ others.terms }
