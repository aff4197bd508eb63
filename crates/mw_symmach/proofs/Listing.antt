-- The words of an expression, one after another.
use Rattle.std.proofs.Common.{◌≡◌, ℕ, ◌+◌, ◌-◌, List, [], ◌∷◌, ◌++◌, append_assoc, ap, refl, sym, ◌∙◌, arith}
use Rattle.std.specs.Prelude.{unwrap_or, false, ◌==◌}
use Rattle.std.proofs.lemmas.Bool.Decides.{nat_tests}
use Rattle.mw_expr.specs.declared.expr.Pair2.{Pair2}
use Rattle.mw_expr.specs.Tree.{Tree, Trees}
use Rattle.mw_expr.specs.Tree as tree
use Rattle.mw_expr.specs.Values.{bits}
use Rattle.mw_macro.specs.ExpressionWords.{expression_words, words_of_parts, join_words, sign_words, all_joined}
use Rattle.mw_term.specs.declared.op.Op.TheVariants.{Ite, Join, Part}
use Rattle.mw_term.specs.declared.word.Word.{Word}
use Rattle.mw_term.specs.Table.{Table, term_width}
use Rattle.mw_term.specs.WordList.{WordList, Ended, AllEnded, ended, list_of, memory_read_words, with_constant}
use Rattle.mw_term.specs.WordList.{with_part, with_word, with_zeros_above}
use Rattle.mw_term.specs.declared.side.Side.{Side}
use Rattle.mw_symmem.specs.Listed.{list_in, Lists, ListsAllOver, ListsOver}
use Rattle.mw_symmem.specs.Memory.{Memory, writes_of}
use Rattle.mw_symmach.specs.Expressions.{AreTerms, IsMade, Runs, shape_over}
use Rattle.mw_symmach.proofs.Making.{shape_same}

-- words without a read behind others
pub then_list : (first : WordList → Ended) (next : ℕ → WordList → Ended) (t0 t1 t2 : Table) (w0 w1 w2 : List Word)
    (m0 m1 : Memory) (a term : ℕ) → ListsOver first t0 t1 w0 w1 m0 m1 a → Lists (next a) t1 t2 w1 w2 term
    → ListsOver (λ l. next (first l).term (first l).list) t0 t2 w0 w2 m0 m1 term
then_list first next t0 t1 t2 w0 w1 w2 m0 m1 a term one two = two m1.reads ∙ ap (λ x. next x.term x.list) one

-- words behind others
pub then_over : (first : WordList → Ended) (next : ℕ → WordList → Ended) (t0 t1 t2 : Table) (w0 w1 w2 : List Word)
    (m0 m1 m2 : Memory) (a term : ℕ) → ListsOver first t0 t1 w0 w1 m0 m1 a → ListsOver (next a) t1 t2 w1 w2 m1 m2 term
    → ListsOver (λ l. next (first l).term (first l).list) t0 t2 w0 w2 m0 m2 term
then_over first next t0 t1 t2 w0 w1 w2 m0 m1 m2 a term one two = two ∙ ap (λ x. next x.term x.list) one

-- the words of an expression over a memory's side
abbrev pub words_over : Table → Memory → (elements : List ℕ) → Side → Tree → WordList → Ended
words_over t m elements side e l = expression_words (shape_over t elements m) elements (writes_of m side) e l

-- those that an expression adds further on are said over the shape and the writes of before
pub listed_later : (t0 t1 t2 : Table) (w0 w1 w2 : List Word) (m0 m1 m2 : Memory) (elements : List ℕ) (side : Side)
    (e : Tree) (count term : ℕ)
    → AreTerms t0 elements → Runs t0 t1 w0 w1 m0 m1 count
    → ListsOver (words_over t1 m1 elements side e) t1 t2 w1 w2 m1 m2 term
    → ListsOver (words_over t0 m0 elements side e) t1 t2 w1 w2 m1 m2 term
listed_later t0 t1 t2 w0 w1 w2 m0 m1 m2 elements side e count term are runs listed =
    listed
    ∙ ap (λ s. expression_words s elements (writes_of m1 side) e (list_in t1 w1 m1))
    (shape_same t0 t1 m0 m1 elements runs.goes.later.keeps runs.goes.reads are)
    ∙ ap (λ writes. expression_words (shape_over t0 elements m0) elements writes e (list_in t1 w1 m1))
    (runs.writes.each side)

pub listed_pair : (t0 t1 t2 t3 : Table) (w0 w1 w2 w3 : List Word) (m0 m1 m2 : Memory) (elements : List ℕ) (side : Side)
    (sign : Pair2) (a b : Tree) (x y term : ℕ) → AreTerms t0 elements → IsMade t0 t1 w0 w1 m0 m1 elements side a x
    → ListsOver (words_over t0 m0 elements side a) t0 t1 w0 w1 m0 m1 x
    → ListsOver (words_over t1 m1 elements side b) t1 t2 w1 w2 m1 m2 y → Lists (sign_words sign x y) t2 t3 w2 w3 term
    → ListsOver (words_over t0 m0 elements side (tree.pair sign a b)) t0 t3 w0 w3 m0 m2 term
listed_pair t0 t1 t2 t3 w0 w1 w2 w3 m0 m1 m2 elements side sign a b x y term are made first second third =
    let right = words_over t0 m0 elements side b in
    then_over (words_over t0 m0 elements side a) (λ left. (λ l. sign_words sign left (right l).term (right l).list))
    t0 t1 t3 w0 w1 w3 m0 m1 m2 x term first
    (then_list right (sign_words sign x) t1 t2 t3 w1 w2 w3 m1 m2 y term
    (listed_later t0 t1 t2 w0 w1 w2 m0 m1 m2 elements side b _ y are made.runs second) third)

pub listed_choice : (t0 t1 t2 t3 t4 : Table) (w0 w1 w2 w3 w4 : List Word) (m0 m1 m2 m3 : Memory) (elements : List ℕ)
    (side : Side) (c a b : Tree) (x y z term n : ℕ) → AreTerms t0 elements → IsMade t0 t1 w0 w1 m0 m1 elements side c x
    → Runs t0 t2 w0 w2 m0 m2 n → ListsOver (words_over t0 m0 elements side c) t0 t1 w0 w1 m0 m1 x
    → ListsOver (words_over t1 m1 elements side a) t1 t2 w1 w2 m1 m2 y
    → ListsOver (words_over t2 m2 elements side b) t2 t3 w2 w3 m2 m3 z → Lists (with_word (Ite x y z)) t3 t4 w3 w4 term
    → ListsOver (words_over t0 m0 elements side (tree.choice c a b)) t0 t4 w0 w4 m0 m3 term
listed_choice t0 t1 t2 t3 t4 w0 w1 w2 w3 w4 m0 m1 m2 m3 elements side c a b x y z term n are made runs zeroth
    first second third =
    let one = words_over t0 m0 elements side a in
    let other = words_over t0 m0 elements side b in
    let last = λ (condition : ℕ). (λ (first : ℕ). (λ (l : WordList).
    with_word (Ite condition first (other l).term) (other l).list)) in
    then_over (words_over t0 m0 elements side c)
    (λ condition. (λ l. last condition (one l).term (one l).list)) t0 t1 t4 w0 w1 w4 m0 m1 m3 x term zeroth
    (then_over one (last x) t1 t2 t4 w1 w2 w4 m1 m2 m3 y term
    (listed_later t0 t1 t2 w0 w1 w2 m0 m1 m2 elements side a _ y are made.runs first)
    (then_list other (λ second. with_word (Ite x y second)) t2 t3 t4 w2 w3 w4 m2 m3 z term
    (listed_later t0 t2 t3 w0 w2 w3 m0 m2 m3 elements side b n z are runs second) third))

-- the width that the words of a part or of a wider word go by is that of the term
bits_of : (t0 t1 : Table) (w0 w1 : List Word) (m0 m1 : Memory) (elements : List ℕ) (side : Side) (e : Tree) (a : ℕ)
    → IsMade t0 t1 w0 w1 m0 m1 elements side e a → term_width t1 a ≡ bits (shape_over t0 elements m0) e
bits_of t0 t1 w0 w1 m0 m1 elements side e a made = ap (λ o. unwrap_or o 0) (sym made.means.width)

pub listed_part : (t0 t1 t2 : Table) (w0 w1 w2 : List Word) (m0 m1 : Memory) (elements : List ℕ) (side : Side)
    (e : Tree) (high low a term : ℕ) → IsMade t0 t1 w0 w1 m0 m1 elements side e a
    → ListsOver (words_over t0 m0 elements side e) t0 t1 w0 w1 m0 m1 a
    → Lists (with_part (term_width t1 a) a low (high - low + 1)) t1 t2 w1 w2 term
    → ListsOver (words_over t0 m0 elements side (tree.part e high low)) t0 t2 w0 w2 m0 m1 term
listed_part t0 t1 t2 w0 w1 w2 m0 m1 elements side e high low a term made first second =
    then_list (words_over t0 m0 elements side e)
    (λ whole. with_part (bits (shape_over t0 elements m0) e) whole low (high - low + 1))
    t0 t1 t2 w0 w1 w2 m0 m1 a term first (λ reads. second reads
    ∙ ap (λ w. with_part w a low (high - low + 1) (list_of t1.ops w1 reads))
    (bits_of t0 t1 w0 w1 m0 m1 elements side e a made))

pub listed_widened : (t0 t1 t2 : Table) (w0 w1 w2 : List Word) (m0 m1 : Memory) (elements : List ℕ) (side : Side)
    (e : Tree) (width a term : ℕ) → IsMade t0 t1 w0 w1 m0 m1 elements side e a
    → ListsOver (words_over t0 m0 elements side e) t0 t1 w0 w1 m0 m1 a
    → Lists (with_zeros_above (term_width t1 a) width a) t1 t2 w1 w2 term
    → ListsOver (words_over t0 m0 elements side (tree.widened e width)) t0 t2 w0 w2 m0 m1 term
listed_widened t0 t1 t2 w0 w1 w2 m0 m1 elements side e width a term made first second =
    then_list (words_over t0 m0 elements side e)
    (λ narrow. with_zeros_above (bits (shape_over t0 elements m0) e) width narrow) t0 t1 t2 w0 w1 w2 m0 m1 a term first
    (λ reads. second reads
    ∙ ap (λ w. with_zeros_above w width a (list_of t1.ops w1 reads)) (bits_of t0 t1 w0 w1 m0 m1 elements side e a made))

pub listed_memory : (t0 t1 t2 : Table) (w0 w1 w2 : List Word) (m0 m1 m2 : Memory) (elements : List ℕ) (side : Side)
    (e : Tree) (a term : ℕ) → IsMade t0 t1 w0 w1 m0 m1 elements side e a
    → ListsOver (words_over t0 m0 elements side e) t0 t1 w0 w1 m0 m1 a
    → ListsOver (memory_read_words m1.word a (writes_of m1 side)) t1 t2 w1 w2 m1 m2 term
    → ListsOver (words_over t0 m0 elements side (tree.memory e)) t0 t2 w0 w2 m0 m2 term
listed_memory t0 t1 t2 w0 w1 w2 m0 m1 m2 elements side e a term made first second =
    then_over (words_over t0 m0 elements side e) (λ place. memory_read_words m0.word place (writes_of m0 side))
    t0 t1 t2 w0 w1 w2 m0 m1 m2 a term first
    (second
    ∙ ap (λ w. memory_read_words w a (writes_of m1 side) (list_in t1 w1 m1)) made.runs.goes.reads.word
    ∙ ap (λ writes. memory_read_words m0.word a writes (list_in t1 w1 m1)) (made.runs.writes.each side))

pub listed_join : (parts : WordList → AllEnded) (t0 t1 t2 : Table) (w0 w1 w2 : List Word) (m0 m1 : Memory)
    (terms : List ℕ) (term : ℕ)
    → ListsAllOver parts t0 t1 w0 w1 m0 m1 terms → Lists (join_words terms) t1 t2 w1 w2 term
    → ListsOver (λ l. all_joined (parts l)) t0 t2 w0 w2 m0 m1 term
listed_join parts t0 t1 t2 w0 w1 w2 m0 m1 terms term all last =
    last m1.reads
    ∙ ap (join_words terms) (sym all.0)
    ∙ ap (λ xs. join_words xs (parts (list_in t0 w0 m0)).list) (sym all.1)

-- the words of the parts of a join over a memory's side
abbrev pub parts_over : Table → Memory → (elements : List ℕ) → Side → Trees → WordList → AllEnded
parts_over t m elements side parts l = words_of_parts (shape_over t elements m) elements (writes_of m side) parts l

-- one part more: what is to come of the others is what was to come behind it
pub parts_next : (t0 t1 t2 : Table) (w0 w1 w2 : List Word) (m0 m1 m2 : Memory) (elements : List ℕ) (side : Side)
    (count term : ℕ) (terms : List ℕ) (e : Tree) (rest : Trees) (all : AllEnded)
    → AreTerms t0 elements → Runs t0 t1 w0 w1 m0 m1 count
    → ((parts_over t0 m0 elements side (tree.more e rest) (list_in t1 w1 m1)).list ≡ all.list)
    × (terms ++ (parts_over t0 m0 elements side (tree.more e rest) (list_in t1 w1 m1)).terms ≡ all.terms)
    → ListsOver (words_over t1 m1 elements side e) t1 t2 w1 w2 m1 m2 term
    → ((parts_over t0 m0 elements side rest (list_in t2 w2 m2)).list ≡ all.list)
    × ((terms ++ term ∷ []) ++ (parts_over t0 m0 elements side rest (list_in t2 w2 m2)).terms ≡ all.terms)
parts_next t0 t1 t2 w0 w1 w2 m0 m1 m2 elements side count term terms e rest all are runs before listed =
    let first = listed_later t0 t1 t2 w0 w1 w2 m0 m1 m2 elements side e count term are runs listed in
    let others = λ (x : Ended). parts_over t0 m0 elements side rest x.list in (
      ap (λ x. (others x).list) first ∙ before.0,
      append_assoc terms (term ∷ []) (others (ended term (list_in t2 w2 m2))).terms
          ∙ ap (λ x. terms ++ x.term ∷ (others x).terms) first ∙ before.1,
    )
