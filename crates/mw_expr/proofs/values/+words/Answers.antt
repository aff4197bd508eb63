use Rattle.std.proofs.Common.{◌≡◌, ◌+◌, ◌∷◌, map, drop, arith, rules, suc, ap, ◌∙◌, sym, drop-cons, add-one}
use Rattle.std.proofs.lemmas.Bool.{or_right}
use Rattle.mw_expr.specs.declared.expr.Expr.{the_lemmas}
use Rattle.mw_expr.specs.Tree.{view, trees_of, element, choice, widened}
use Rattle.mw_expr.specs.Values.{reads_memory, read_memory}
use Rattle.mw_expr.proofs.Joins.{joins_more}
use Rattle.mw_expr.proofs.Parts.{element_there, element_of_width, choice_of_first, widened_from, unless_one}
use Rattle.mw_base.proofs.Widths.{below_wider}
use Rattle.mw_expr.proofs.values.+words.Goals as goal

pub word_of-bounds-values-element : goal.word_of-bounds-values-element
word_of-bounds-values-element t c =
    let seen : view c.args.expr.now ≡ element c.in-Element.element = rw c.in-Element.is (search (rules, the_lemmas)) in
    let some = rw seen at c.requires.wide in
    omega (arith, element_there c.args.shape.now.widths c.in-Element.element some, c.requires.values_fit.count)

pub word_of-bounds-as_slice-element : goal.word_of-bounds-as_slice-element
word_of-bounds-as_slice-element t c =
    let seen : view c.args.expr.now ≡ element c.in-Element.element = rw c.in-Element.is (search (rules, the_lemmas)) in
    let some = rw seen at c.requires.wide in
    rw c.as_slice.ensures (element_there c.args.shape.now.widths c.in-Element.element some)

pub word_of-returns-in-Element-clause-wide : goal.word_of-returns-in-Element-clause-wide
word_of-returns-in-Element-clause-wide t c =
    let seen : view c.args.expr.now ≡ element c.in-Element.element = rw c.in-Element.is (search (rules, the_lemmas)) in
    let some = rw seen at c.requires.wide in
    rw (seen, c.as_slice.ensures) (element_of_width c.args.shape.now.widths c.in-Element.element some).0

pub word_of-returns-in-Element-clause-range : goal.word_of-returns-in-Element-clause-range
word_of-returns-in-Element-clause-range t c =
    let seen : view c.args.expr.now ≡ element c.in-Element.element = rw c.in-Element.is (search (rules, the_lemmas)) in
    let some = rw seen at c.requires.wide in
    let wide = element_of_width c.args.shape.now.widths c.in-Element.element some in
    rw c.as_slice.ensures (wide.1, wide.2)

pub word_of-returns-then-chosen_by-eq1-clause-wide : goal.word_of-returns-then-chosen_by-eq1-clause-wide
word_of-returns-then-chosen_by-eq1-clause-wide t c =
    let seen : view c.args.expr.now ≡ choice (view c.in-Choose.condition.value) (view c.in-Choose.a.value)
    (view c.in-Choose.b.value) = rw c.in-Choose.is (search (rules, the_lemmas)) in
    let some = rw seen at c.requires.wide in
    let first = rw c.deref-then-chosen_by-eq1.ensures at c.word_of.ensures.wide in
    rw seen (choice_of_first _ _ _ some ∙ first)

pub word_of-returns-else-chosen_by-eq1-clause-exact : goal.word_of-returns-else-chosen_by-eq1-clause-exact
word_of-returns-else-chosen_by-eq1-clause-exact t c =
    let seen : view c.args.expr.now ≡ choice (view c.in-Choose.condition.value) (view c.in-Choose.a.value)
    (view c.in-Choose.b.value) = rw c.in-Choose.is (search (rules, the_lemmas)) in
    let second = rw c.deref-else-chosen_by-eq1.ensures at c.word_of-else-chosen_by-eq1.ensures.exact in
    let condition = rw c.deref-in-Choose.ensures at c.word_of-chosen_by.ensures.exact in
    rw seen (second ∙ sym (unless_one _ _ _ (rw condition at c.if-chosen_by-eq1.false)))

pub word_of-returns-in-Widen-clause-below : goal.word_of-returns-in-Widen-clause-below
word_of-returns-in-Widen-clause-below t c =
    let word = c.word_of-in-Widen in
    let seen : view c.args.expr.now ≡ widened (view c.in-Widen.e.value) c.in-Widen.width = rw c.in-Widen.is
    (search (rules, the_lemmas)) in
    let wide = rw c.deref-in-Widen.ensures at word.ensures.wide in
    let some = rw (seen, wide) at c.requires.wide in
    below_wider word.result.value word.result.width c.in-Widen.width word.ensures.below
    (widened_from c.in-Widen.width word.result.width some)

pub joined-loop-part-preserved : goal.joined-loop-part-preserved
joined-loop-part-preserved t c =
    let parts = c.args.parts.now in
    let i = c.loop-part.part-index in
    let item = c.part-item.result in
    let rest = drop (i + 1) parts in
    let first : drop i parts ≡ item ∷ rest = rw add-one (drop-cons parts i item (omega arith)
    ∙ ap (λ x. x ∷ drop (suc i) parts) (sym c.part-item.is)) in
    let joins = rw first at c.loop-part.invariant.joins in
    let image = rw first at c.loop-part.invariant.image in
    record {
      joins = rw (c.above-whole.ensures.exact, c.above-whole.ensures.wide, c.word_of.ensures.exact)
          (joins_more _ _ _ _ (view item)
          (trees_of (map view rest)) c.loop-part.whole.value c.loop-part.whole.width c.word_of.result.width
          joins c.word_of.ensures.wide (rw c.word_of.ensures.exact at c.word_of.ensures.below));
      image = λ reads. image (or_right (reads_memory (view item)) (read_memory (trees_of (map view rest))) reads);
    }
