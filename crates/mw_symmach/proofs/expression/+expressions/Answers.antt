use Rattle.std.proofs.Common.{◌≡◌, ◌+◌, ◌∷◌, ◌++◌, [], map, take, drop, arith, rules, slice_index, suc, sym, ap, ◌∙◌}
use Rattle.std.proofs.Common.{add-one, drop-cons, refl, append-nil}
use Rattle.std.proofs.lemmas.List.{drop_all, get_or_read, take_more, take_all}
use Rattle.std.proofs.lemmas.Result.{IfOk-weaker}
use Rattle.mw_expr.specs.declared.expr.Expr.{the_lemmas}
use Rattle.mw_expr.specs.Tree.{view, trees_of}
use Rattle.mw_expr.specs.Tree as tree
use Rattle.mw_symmach.proofs.Forms.{element_inside, made_element, made_constant, made_not, made_part, made_widened}
use Rattle.mw_symmach.proofs.Forms.{made_pair, made_choice, read_result, made_join, pair_next, pair_ready, choice_next}
use Rattle.mw_symmach.proofs.Forms.{choice_last, choice_ready, join_most, parts_there, made_none, made_more}
use Rattle.mw_symmach.proofs.Forms.{first_ready, rest_ready, map_push}
use Rattle.mw_macro.specs.Counts.{reads}
use Rattle.mw_macro.specs.ExpressionWords.{words_of_parts}
use Rattle.mw_term.specs.WordList.{with_complement}
use Rattle.mw_symmem.specs.Memory.{writes_of}
use Rattle.mw_symmach.specs.Expressions.{shape_over}
use Rattle.mw_symmach.proofs.Making.{runs_then}
use Rattle.mw_symmach.proofs.Listing.{then_list, words_over, listed_pair, listed_choice, listed_part, listed_widened}
use Rattle.mw_symmach.proofs.Listing.{listed_memory, listed_join, parts_next}
use Rattle.mw_symmach.proofs.expression.+expressions.Goals as goal

pub expr_term-bounds-elements-element : goal.expr_term-bounds-elements-element
expr_term-bounds-elements-element t c =
    let seen : view c.args.expr.now ≡ tree.element c.in-Element.element =
    rw c.in-Element.is (search (rules, the_lemmas)) in
    let ready = rw seen at c.requires in
    element_inside c.args.terms.now c.args.words.now c.args.memory.now c.args.elements.now c.in-Element.element ready

pub expr_term-returns-in-Element-clause-made : goal.expr_term-returns-in-Element-clause-made
expr_term-returns-in-Element-clause-made t c =
    let seen : view c.args.expr.now ≡ tree.element c.in-Element.element =
    rw c.in-Element.is (search (rules, the_lemmas)) in
    let ready = rw seen at c.requires in
    let inside =
    element_inside c.args.terms.now c.args.words.now c.args.memory.now c.args.elements.now c.in-Element.element ready in
    let read : c.index-elements-element.result ≡ slice_index c.args.elements.now c.in-Element.element =
    get_or_read c.args.elements.now c.in-Element.element c.index-elements-element.result inside
    c.index-elements-element.is 0 in
    rw (seen, read) (made_element c.args.terms.now c.args.words.now c.args.memory.now c.args.elements.now c.args.side
    c.in-Element.element ready)

pub expr_term-returns-in-Con-clause-made : goal.expr_term-returns-in-Con-clause-made
expr_term-returns-in-Con-clause-made t c =
    let seen : view c.args.expr.now ≡ tree.constant c.in-Con.number c.in-Con.width =
    rw c.in-Con.is (search (rules, the_lemmas)) in
    let ready = rw seen at c.requires in
    rw seen (IfOk-weaker c.constant.result _ _
    (λ term gives. made_constant c.args.terms.now c.constant.new.terms c.args.words.now c.args.memory.now
    c.args.elements.now c.args.side c.in-Con.number c.in-Con.width term ready (gives c.args.words.now))
    c.constant.ensures.gives)

pub expr_term-returns-in_ok-operand-in-Not-clause-made : goal.expr_term-returns-in_ok-operand-in-Not-clause-made
expr_term-returns-in_ok-operand-in-Not-clause-made t c =
    let seen : view c.args.expr.now ≡ tree.complement (view c.in-Not.e.value) =
    rw c.in-Not.is (search (rules, the_lemmas)) in
    let ready = rw seen at c.requires in
    let made = rw c.deref.ensures at c.in_ok-operand-in-Not.ensures.made in
    rw seen (IfOk-weaker c.complement.result _ _
    (λ term gives. made_not c.args.terms.now c.expr_term.new.terms c.complement.new.terms c.args.words.now
    c.expr_term.new.words c.complement.new.words c.args.memory.now c.expr_term.new.memory c.args.elements.now
    c.args.side (view c.in-Not.e.value) c.in_ok-operand-in-Not.operand term made gives)
    c.complement.ensures.gives)

pub expr_term-returns-in_ok-whole-in-Part-clause-made : goal.expr_term-returns-in_ok-whole-in-Part-clause-made
expr_term-returns-in_ok-whole-in-Part-clause-made t c =
    let seen : view c.args.expr.now ≡ tree.part (view c.in-Part.e.value) c.in-Part.high c.in-Part.low =
    rw c.in-Part.is (search (rules, the_lemmas)) in
    let ready = rw seen at c.requires in
    let made = rw c.deref-in-Part.ensures at c.in_ok-whole-in-Part.ensures.made in
    rw seen (IfOk-weaker c.part.result _ _
    (λ term gives. made_part c.args.terms.now c.expr_term-in-Part.new.terms c.part.new.terms c.args.words.now
    c.expr_term-in-Part.new.words c.part.new.words c.args.memory.now c.expr_term-in-Part.new.memory c.args.elements.now
    c.args.side (view c.in-Part.e.value) c.in-Part.high c.in-Part.low c.in_ok-whole-in-Part.whole term ready made gives)
    c.part.ensures.gives)

pub expr_term-returns-in_ok-narrow-in-Widen-clause-made : goal.expr_term-returns-in_ok-narrow-in-Widen-clause-made
expr_term-returns-in_ok-narrow-in-Widen-clause-made t c =
    let seen : view c.args.expr.now ≡ tree.widened (view c.in-Widen.e.value) c.in-Widen.width =
    rw c.in-Widen.is (search (rules, the_lemmas)) in
    let ready = rw seen at c.requires in
    let made = rw c.deref-in-Widen.ensures at c.in_ok-narrow-in-Widen.ensures.made in
    rw seen (IfOk-weaker c.widened.result _ _
    (λ term gives. made_widened c.args.terms.now c.expr_term-in-Widen.new.terms c.widened.new.terms c.args.words.now
    c.expr_term-in-Widen.new.words c.widened.new.words
    c.args.memory.now c.expr_term-in-Widen.new.memory c.args.elements.now c.args.side
    (view c.in-Widen.e.value) c.in-Widen.width c.in_ok-narrow-in-Widen.narrow term ready made gives)
    c.widened.ensures.gives)

pub expr_term-expr_term-requires-in-Two-2 : goal.expr_term-expr_term-requires-in-Two-2
expr_term-expr_term-requires-in-Two-2 t c =
    let seen : view c.args.expr.now ≡ tree.pair c.in-Two.sign (view c.in-Two.a.value) (view c.in-Two.b.value) =
    rw c.in-Two.is (search (rules, the_lemmas)) in
    let ready = rw seen at c.requires in
    let first = rw c.deref-in-Two.ensures at c.in_ok-left-in-Two.ensures.made in (
      search (rules, the_lemmas),
      rw c.deref-in-Two-2.ensures (pair_next c.args.terms.now c.expr_term-in-Two.new.terms c.args.words.now
          c.expr_term-in-Two.new.words c.args.memory.now c.expr_term-in-Two.new.memory c.args.elements.now c.args.side
          c.in-Two.sign (view c.in-Two.a.value) (view c.in-Two.b.value) c.in_ok-left-in-Two.left ready first),
    )

pub expr_term-signed-requires-clause-pair : goal.expr_term-signed-requires-clause-pair
expr_term-signed-requires-clause-pair t c =
    let seen : view c.args.expr.now ≡ tree.pair c.in-Two.sign (view c.in-Two.a.value) (view c.in-Two.b.value) =
    rw c.in-Two.is (search (rules, the_lemmas)) in
    let ready = rw seen at c.requires in
    let first = rw c.deref-in-Two.ensures at c.in_ok-left-in-Two.ensures.made in
    let second = rw c.deref-in-Two-2.ensures at c.in_ok-right-in-Two.ensures.made in
    pair_ready c.args.terms.now c.expr_term-in-Two.new.terms c.expr_term-in-Two-2.new.terms c.args.words.now
    c.expr_term-in-Two.new.words c.expr_term-in-Two-2.new.words c.args.memory.now c.expr_term-in-Two.new.memory
    c.expr_term-in-Two-2.new.memory c.args.elements.now c.args.side c.in-Two.sign (view c.in-Two.a.value)
    (view c.in-Two.b.value) c.in_ok-left-in-Two.left c.in_ok-right-in-Two.right ready first second

pub expr_term-returns-in_ok-right-in-Two-clause-made : goal.expr_term-returns-in_ok-right-in-Two-clause-made
expr_term-returns-in_ok-right-in-Two-clause-made t c =
    let seen : view c.args.expr.now ≡ tree.pair c.in-Two.sign (view c.in-Two.a.value) (view c.in-Two.b.value) =
    rw c.in-Two.is (search (rules, the_lemmas)) in
    let ready = rw seen at c.requires in
    let first = rw c.deref-in-Two.ensures at c.in_ok-left-in-Two.ensures.made in
    let second = rw c.deref-in-Two-2.ensures at c.in_ok-right-in-Two.ensures.made in
    rw seen (IfOk-weaker c.signed.result _ _
    (λ term gives. made_pair c.args.terms.now c.expr_term-in-Two.new.terms c.expr_term-in-Two-2.new.terms
    c.signed.new.terms c.args.words.now c.expr_term-in-Two.new.words c.expr_term-in-Two-2.new.words c.signed.new.words
    c.args.memory.now c.expr_term-in-Two.new.memory c.expr_term-in-Two-2.new.memory c.args.elements.now c.args.side
    c.in-Two.sign (view c.in-Two.a.value) (view c.in-Two.b.value)
    c.in_ok-left-in-Two.left c.in_ok-right-in-Two.right term ready first second gives) c.signed.ensures.gives)

pub expr_term-expr_term-requires-in-Choose-2 : goal.expr_term-expr_term-requires-in-Choose-2
expr_term-expr_term-requires-in-Choose-2 t c =
    let seen : view c.args.expr.now
    ≡ tree.choice (view c.in-Choose.condition.value) (view c.in-Choose.a.value) (view c.in-Choose.b.value) =
    rw c.in-Choose.is (search (rules, the_lemmas)) in
    let ready = rw seen at c.requires in
    let zeroth = rw c.deref-in-Choose.ensures at c.in_ok-chosen_by-in-Choose.ensures.made in (
      search (rules, the_lemmas),
      rw c.deref-in-Choose-2.ensures
          (choice_next c.args.terms.now c.expr_term-in-Choose.new.terms c.args.words.now c.expr_term-in-Choose.new.words
          c.args.memory.now c.expr_term-in-Choose.new.memory c.args.elements.now c.args.side
          (view c.in-Choose.condition.value) (view c.in-Choose.a.value) (view c.in-Choose.b.value)
          c.in_ok-chosen_by-in-Choose.chosen_by ready zeroth),
    )

pub expr_term-expr_term-requires-in-Choose-3 : goal.expr_term-expr_term-requires-in-Choose-3
expr_term-expr_term-requires-in-Choose-3 t c =
    let seen : view c.args.expr.now
    ≡ tree.choice (view c.in-Choose.condition.value) (view c.in-Choose.a.value) (view c.in-Choose.b.value) =
    rw c.in-Choose.is (search (rules, the_lemmas)) in
    let ready = rw seen at c.requires in
    let zeroth = rw c.deref-in-Choose.ensures at c.in_ok-chosen_by-in-Choose.ensures.made in
    let first = rw c.deref-in-Choose-2.ensures at c.in_ok-first-in-Choose.ensures.made in (
      search (rules, the_lemmas),
      rw c.deref-in-Choose-3.ensures
          (choice_last c.args.terms.now c.expr_term-in-Choose.new.terms c.expr_term-in-Choose-2.new.terms
          c.args.words.now c.expr_term-in-Choose.new.words c.expr_term-in-Choose-2.new.words
          c.args.memory.now c.expr_term-in-Choose.new.memory c.expr_term-in-Choose-2.new.memory c.args.elements.now
          c.args.side (view c.in-Choose.condition.value) (view c.in-Choose.a.value) (view c.in-Choose.b.value)
          c.in_ok-chosen_by-in-Choose.chosen_by c.in_ok-first-in-Choose.first ready zeroth first),
    )

pub expr_term-choice-requires-clause-bit : goal.expr_term-choice-requires-clause-bit
expr_term-choice-requires-clause-bit t c =
    let seen : view c.args.expr.now
    ≡ tree.choice (view c.in-Choose.condition.value) (view c.in-Choose.a.value) (view c.in-Choose.b.value) =
    rw c.in-Choose.is (search (rules, the_lemmas)) in
    let ready = rw seen at c.requires in
    let zeroth = rw c.deref-in-Choose.ensures at c.in_ok-chosen_by-in-Choose.ensures.made in
    let first = rw c.deref-in-Choose-2.ensures at c.in_ok-first-in-Choose.ensures.made in
    let second = rw c.deref-in-Choose-3.ensures at c.in_ok-second-in-Choose.ensures.made in
    (choice_ready c.args.terms.now c.expr_term-in-Choose.new.terms c.expr_term-in-Choose-2.new.terms
    c.expr_term-in-Choose-3.new.terms
    c.args.words.now c.expr_term-in-Choose.new.words c.expr_term-in-Choose-2.new.words c.expr_term-in-Choose-3.new.words
    c.args.memory.now c.expr_term-in-Choose.new.memory c.expr_term-in-Choose-2.new.memory
    c.expr_term-in-Choose-3.new.memory c.args.elements.now c.args.side (view c.in-Choose.condition.value)
    (view c.in-Choose.a.value) (view c.in-Choose.b.value) c.in_ok-chosen_by-in-Choose.chosen_by
    c.in_ok-first-in-Choose.first c.in_ok-second-in-Choose.second ready zeroth first second).0

pub expr_term-choice-requires-clause-pair : goal.expr_term-choice-requires-clause-pair
expr_term-choice-requires-clause-pair t c =
    let seen : view c.args.expr.now
    ≡ tree.choice (view c.in-Choose.condition.value) (view c.in-Choose.a.value) (view c.in-Choose.b.value) =
    rw c.in-Choose.is (search (rules, the_lemmas)) in
    let ready = rw seen at c.requires in
    let zeroth = rw c.deref-in-Choose.ensures at c.in_ok-chosen_by-in-Choose.ensures.made in
    let first = rw c.deref-in-Choose-2.ensures at c.in_ok-first-in-Choose.ensures.made in
    let second = rw c.deref-in-Choose-3.ensures at c.in_ok-second-in-Choose.ensures.made in
    (choice_ready c.args.terms.now c.expr_term-in-Choose.new.terms c.expr_term-in-Choose-2.new.terms
    c.expr_term-in-Choose-3.new.terms
    c.args.words.now c.expr_term-in-Choose.new.words c.expr_term-in-Choose-2.new.words c.expr_term-in-Choose-3.new.words
    c.args.memory.now c.expr_term-in-Choose.new.memory c.expr_term-in-Choose-2.new.memory
    c.expr_term-in-Choose-3.new.memory c.args.elements.now c.args.side (view c.in-Choose.condition.value)
    (view c.in-Choose.a.value) (view c.in-Choose.b.value) c.in_ok-chosen_by-in-Choose.chosen_by
    c.in_ok-first-in-Choose.first c.in_ok-second-in-Choose.second ready zeroth first second).1

pub expr_term-returns-in_ok-second-in-Choose-clause-made : goal.expr_term-returns-in_ok-second-in-Choose-clause-made
expr_term-returns-in_ok-second-in-Choose-clause-made t c =
    let seen : view c.args.expr.now
    ≡ tree.choice (view c.in-Choose.condition.value) (view c.in-Choose.a.value) (view c.in-Choose.b.value) =
    rw c.in-Choose.is (search (rules, the_lemmas)) in
    let ready = rw seen at c.requires in
    let zeroth = rw c.deref-in-Choose.ensures at c.in_ok-chosen_by-in-Choose.ensures.made in
    let first = rw c.deref-in-Choose-2.ensures at c.in_ok-first-in-Choose.ensures.made in
    let second = rw c.deref-in-Choose-3.ensures at c.in_ok-second-in-Choose.ensures.made in
    rw seen (IfOk-weaker c.choice.result _ _
    (λ term gives. made_choice c.args.terms.now c.expr_term-in-Choose.new.terms c.expr_term-in-Choose-2.new.terms
    c.expr_term-in-Choose-3.new.terms c.choice.new.terms c.args.words.now c.expr_term-in-Choose.new.words
    c.expr_term-in-Choose-2.new.words c.expr_term-in-Choose-3.new.words c.choice.new.words c.args.memory.now
    c.expr_term-in-Choose.new.memory c.expr_term-in-Choose-2.new.memory c.expr_term-in-Choose-3.new.memory
    c.args.elements.now c.args.side (view c.in-Choose.condition.value) (view c.in-Choose.a.value)
    (view c.in-Choose.b.value) c.in_ok-chosen_by-in-Choose.chosen_by c.in_ok-first-in-Choose.first
    c.in_ok-second-in-Choose.second term ready zeroth first second gives) c.choice.ensures.gives)

pub expr_term-joined-requires-clause-some : goal.expr_term-joined-requires-clause-some
expr_term-joined-requires-clause-some t c =
    let seen : view c.args.expr.now ≡ tree.join (trees_of (map view c.in-Join.parts.items)) =
    rw c.in-Join.is (search (rules, the_lemmas)) in
    let ready = rw seen at c.requires in
    let made = rw c.deref-in-Join.ensures.value at c.in_ok-parts-in-Join.ensures.made in
    rw c.deref-in-Join-2.ensures.value
    (join_most c.args.terms.now c.part_terms.new.terms c.args.words.now c.part_terms.new.words
    c.args.memory.now c.part_terms.new.memory c.args.elements.now c.args.side
    (trees_of (map view c.in-Join.parts.items)) c.in_ok-parts-in-Join.parts.items ready made).0

pub expr_term-joined-requires-clause-most : goal.expr_term-joined-requires-clause-most
expr_term-joined-requires-clause-most t c =
    let seen : view c.args.expr.now ≡ tree.join (trees_of (map view c.in-Join.parts.items)) =
    rw c.in-Join.is (search (rules, the_lemmas)) in
    let ready = rw seen at c.requires in
    let made = rw c.deref-in-Join.ensures.value at c.in_ok-parts-in-Join.ensures.made in
    rw c.deref-in-Join-2.ensures.value
    (join_most c.args.terms.now c.part_terms.new.terms c.args.words.now c.part_terms.new.words
    c.args.memory.now c.part_terms.new.memory c.args.elements.now c.args.side
    (trees_of (map view c.in-Join.parts.items)) c.in_ok-parts-in-Join.parts.items ready made).1

pub expr_term-joined-requires-clause-there : goal.expr_term-joined-requires-clause-there
expr_term-joined-requires-clause-there t c =
    let seen : view c.args.expr.now ≡ tree.join (trees_of (map view c.in-Join.parts.items)) =
    rw c.in-Join.is (search (rules, the_lemmas)) in
    let ready = rw seen at c.requires in
    let made = rw c.deref-in-Join.ensures.value at c.in_ok-parts-in-Join.ensures.made in
    rw c.deref-in-Join-2.ensures.value
    (parts_there c.args.terms.now c.part_terms.new.terms c.args.memory.now c.part_terms.new.memory c.args.elements.now
    c.args.side (trees_of (map view c.in-Join.parts.items)) c.in_ok-parts-in-Join.parts.items made.mean)

pub expr_term-returns-in_ok-parts-in-Join-clause-made : goal.expr_term-returns-in_ok-parts-in-Join-clause-made
expr_term-returns-in_ok-parts-in-Join-clause-made t c =
    let seen : view c.args.expr.now ≡ tree.join (trees_of (map view c.in-Join.parts.items)) =
    rw c.in-Join.is (search (rules, the_lemmas)) in
    let ready = rw seen at c.requires in
    let made = rw c.deref-in-Join.ensures.value at c.in_ok-parts-in-Join.ensures.made in
    rw seen (IfOk-weaker c.joined.result _ _
    (λ term gives. made_join c.args.terms.now c.part_terms.new.terms c.joined.new.terms c.args.words.now
    c.part_terms.new.words c.joined.new.words c.args.memory.now c.part_terms.new.memory c.args.elements.now c.args.side
    (trees_of (map view c.in-Join.parts.items)) c.in_ok-parts-in-Join.parts.items term ready made gives)
    (rw c.deref-in-Join-2.ensures.value at c.joined.ensures.gives))

pub expr_term-returns-in_ok-address-in-Memory-clause-made : goal.expr_term-returns-in_ok-address-in-Memory-clause-made
expr_term-returns-in_ok-address-in-Memory-clause-made t c =
    let seen : view c.args.expr.now ≡ tree.memory (view c.in-Memory.e.value) =
    rw c.in-Memory.is (search (rules, the_lemmas)) in
    let ready = rw seen at c.requires in
    let made = rw c.deref-in-Memory.ensures at c.in_ok-address-in-Memory.ensures.made in
    rw seen (read_result c.read.result c.args.terms.now c.expr_term-in-Memory.new.terms c.read.new.terms
    c.args.words.now c.expr_term-in-Memory.new.words c.read.new.words c.args.memory.now c.expr_term-in-Memory.new.memory
    c.read.new.self c.args.elements.now c.args.side (view c.in-Memory.e.value)
    c.in_ok-address-in-Memory.address ready made c.read.ensures.means c.read.ensures.adds c.read.ensures.width
    c.read.ensures.reads c.read.ensures.memory c.read.ensures.of c.read.ensures.extends c.read.ensures.keeps
    c.read.ensures.table)

pub part_terms-loop-part-init : goal.part_terms-loop-part-init
part_terms-loop-part-init t c = record {
  listed = rw c.new-made.ensures.items (refl, refl);
  made = rw c.new-made.ensures.items (made_none c.args.terms.now c.args.words.now c.args.memory.now c.args.elements.now
      c.args.side c.requires.workspace);
  left = c.requires;
}

pub part_terms-expr_term-requires : goal.part_terms-expr_term-requires
part_terms-expr_term-requires t c =
    let l = c.loop-part in
    let parts = c.args.parts.now in
    let i = l.part-index in
    let item = c.part-item.result in
    let rest : drop i parts ≡ item ∷ drop (i + 1) parts = rw add-one (drop-cons parts i item (omega arith)
    ∙ ap (λ x. x ∷ drop (suc i) parts) (sym c.part-item.is)) in
    let left = rw rest at l.invariant.left in (
      search (rules, the_lemmas),
      first_ready l.terms l.words l.memory c.args.elements.now (view item)
          (trees_of (map view (drop (i + 1) parts))) left,
    )

pub part_terms-loop-part-preserved : goal.part_terms-loop-part-preserved
part_terms-loop-part-preserved t c =
    let l = c.loop-part in
    let parts = c.args.parts.now in
    let i = l.part-index in
    let item = c.part-item.result in
    let term = c.in_ok-expr_term.field-0 in
    let one = c.in_ok-expr_term.ensures.made in
    let rest : drop i parts ≡ item ∷ drop (i + 1) parts = rw add-one (drop-cons parts i item (omega arith)
    ∙ ap (λ x. x ∷ drop (suc i) parts) (sym c.part-item.is)) in
    let left = rw rest at l.invariant.left in
    let next : map view (take (i + 1) parts) ≡ map view (take i parts) ++ view item ∷ [] =
    ap (map view) (take_more parts i item c.loop-part-test.true ∙ ap (λ x. take i parts ++ x ∷ []) (sym c.part-item.is))
    ∙ map_push view (take i parts) item in
    record {
      made = rw (next, c.in_ok-push.ensures.items)
          (made_more c.args.terms.now l.terms c.expr_term.new.terms c.args.words.now l.words c.expr_term.new.words
          c.args.memory.now l.memory c.expr_term.new.memory c.args.elements.now c.args.side (map view (take i parts))
          l.made.items (view item) term c.requires.each c.requires.workspace.memory l.invariant.made one);
      listed = rw c.in_ok-push.ensures.items
          (parts_next c.args.terms.now l.terms c.expr_term.new.terms c.args.words.now l.words c.expr_term.new.words
          c.args.memory.now l.memory c.expr_term.new.memory c.args.elements.now c.args.side _ term l.made.items
          (view item) (trees_of (map view (drop (i + 1) parts))) _ c.requires.each l.invariant.made.runs
          (rw rest at l.invariant.listed) c.in_ok-expr_term.ensures.listed);
      left = rest_ready l.terms c.expr_term.new.terms l.words c.expr_term.new.words l.memory c.expr_term.new.memory
          c.args.elements.now c.args.side (view item) (trees_of (map view (drop (i + 1) parts))) term left one;
    }

pub part_terms-returns-clause-made : goal.part_terms-returns-clause-made
part_terms-returns-clause-made t c =
    let l = c.loop-part in
    let parts = c.args.parts.now in
    rw (take_all l.part-index parts c.loop-part-test.false) at l.invariant.made

pub part_terms-returns-clause-listed : goal.part_terms-returns-clause-listed
part_terms-returns-clause-listed t c =
    let l = c.loop-part in
    let listed =
    rw (drop_all l.part-index c.args.parts.now (omega (arith, c.loop-part-test.false))) at l.invariant.listed in
    (sym listed.0, sym listed.1 ∙ append-nil l.made.items)

pub expr_term-returns-in-Element-clause-listed : goal.expr_term-returns-in-Element-clause-listed
expr_term-returns-in-Element-clause-listed t c =
    let seen : view c.args.expr.now ≡ tree.element c.in-Element.element =
    rw c.in-Element.is (search (rules, the_lemmas)) in
    let ready = rw seen at c.requires in
    let inside =
    element_inside c.args.terms.now c.args.words.now c.args.memory.now c.args.elements.now c.in-Element.element ready in
    let read : c.index-elements-element.result ≡ slice_index c.args.elements.now c.in-Element.element =
    get_or_read c.args.elements.now c.in-Element.element c.index-elements-element.result inside
    c.index-elements-element.is 0 in
    rw (seen, read) refl

pub expr_term-returns-in-Con-clause-listed : goal.expr_term-returns-in-Con-clause-listed
expr_term-returns-in-Con-clause-listed t c =
    let seen : view c.args.expr.now ≡ tree.constant c.in-Con.number c.in-Con.width =
    rw c.in-Con.is (search (rules, the_lemmas)) in
    rw seen (IfOk-weaker c.constant.result _ _ (λ term lists. lists c.args.words.now c.args.memory.now.reads)
    c.constant.ensures.listed)

pub expr_term-returns-in_ok-operand-in-Not-clause-listed : goal.expr_term-returns-in_ok-operand-in-Not-clause-listed
expr_term-returns-in_ok-operand-in-Not-clause-listed t c =
    let seen : view c.args.expr.now ≡ tree.complement (view c.in-Not.e.value) =
    rw c.in-Not.is (search (rules, the_lemmas)) in
    let listed = rw c.deref.ensures at c.in_ok-operand-in-Not.ensures.listed in
    rw seen (IfOk-weaker c.complement.result _ _
    (λ term lists.
    then_list (words_over c.args.terms.now c.args.memory.now c.args.elements.now c.args.side (view c.in-Not.e.value))
    (λ operand. with_complement operand) c.args.terms.now c.expr_term.new.terms c.complement.new.terms c.args.words.now
    c.expr_term.new.words c.complement.new.words c.args.memory.now c.expr_term.new.memory c.in_ok-operand-in-Not.operand
    term listed lists) c.complement.ensures.listed)

pub expr_term-returns-in_ok-whole-in-Part-clause-listed : goal.expr_term-returns-in_ok-whole-in-Part-clause-listed
expr_term-returns-in_ok-whole-in-Part-clause-listed t c =
    let seen : view c.args.expr.now ≡ tree.part (view c.in-Part.e.value) c.in-Part.high c.in-Part.low =
    rw c.in-Part.is (search (rules, the_lemmas)) in
    let made = rw c.deref-in-Part.ensures at c.in_ok-whole-in-Part.ensures.made in
    let listed = rw c.deref-in-Part.ensures at c.in_ok-whole-in-Part.ensures.listed in
    rw seen (IfOk-weaker c.part.result _ _
    (λ term lists. listed_part c.args.terms.now c.expr_term-in-Part.new.terms c.part.new.terms c.args.words.now
    c.expr_term-in-Part.new.words c.part.new.words
    c.args.memory.now c.expr_term-in-Part.new.memory c.args.elements.now c.args.side
    (view c.in-Part.e.value) c.in-Part.high c.in-Part.low c.in_ok-whole-in-Part.whole term made listed lists)
    c.part.ensures.listed)

pub expr_term-returns-in_ok-narrow-in-Widen-clause-listed : goal.expr_term-returns-in_ok-narrow-in-Widen-clause-listed
expr_term-returns-in_ok-narrow-in-Widen-clause-listed t c =
    let seen : view c.args.expr.now ≡ tree.widened (view c.in-Widen.e.value) c.in-Widen.width =
    rw c.in-Widen.is (search (rules, the_lemmas)) in
    let made = rw c.deref-in-Widen.ensures at c.in_ok-narrow-in-Widen.ensures.made in
    let listed = rw c.deref-in-Widen.ensures at c.in_ok-narrow-in-Widen.ensures.listed in
    rw seen (IfOk-weaker c.widened.result _ _
    (λ term lists. listed_widened c.args.terms.now c.expr_term-in-Widen.new.terms c.widened.new.terms c.args.words.now
    c.expr_term-in-Widen.new.words c.widened.new.words
    c.args.memory.now c.expr_term-in-Widen.new.memory c.args.elements.now c.args.side
    (view c.in-Widen.e.value) c.in-Widen.width c.in_ok-narrow-in-Widen.narrow term made listed lists)
    c.widened.ensures.listed)

pub expr_term-returns-in_ok-right-in-Two-clause-listed : goal.expr_term-returns-in_ok-right-in-Two-clause-listed
expr_term-returns-in_ok-right-in-Two-clause-listed t c =
    let seen : view c.args.expr.now ≡ tree.pair c.in-Two.sign (view c.in-Two.a.value) (view c.in-Two.b.value) =
    rw c.in-Two.is (search (rules, the_lemmas)) in
    let ready = rw seen at c.requires in
    let made = rw c.deref-in-Two.ensures at c.in_ok-left-in-Two.ensures.made in
    let first = rw c.deref-in-Two.ensures at c.in_ok-left-in-Two.ensures.listed in
    let second = rw c.deref-in-Two-2.ensures at c.in_ok-right-in-Two.ensures.listed in
    rw seen (IfOk-weaker c.signed.result _ _
    (λ term lists. listed_pair c.args.terms.now c.expr_term-in-Two.new.terms c.expr_term-in-Two-2.new.terms
    c.signed.new.terms c.args.words.now c.expr_term-in-Two.new.words c.expr_term-in-Two-2.new.words c.signed.new.words
    c.args.memory.now c.expr_term-in-Two.new.memory c.expr_term-in-Two-2.new.memory c.args.elements.now c.args.side
    c.in-Two.sign (view c.in-Two.a.value) (view c.in-Two.b.value)
    c.in_ok-left-in-Two.left c.in_ok-right-in-Two.right term ready.each made first second lists)
    c.signed.ensures.listed)

pub expr_term-returns-in_ok-second-in-Choose-clause-listed : goal.expr_term-returns-in_ok-second-in-Choose-clause-listed
expr_term-returns-in_ok-second-in-Choose-clause-listed t c =
    let seen : view c.args.expr.now
    ≡ tree.choice (view c.in-Choose.condition.value) (view c.in-Choose.a.value) (view c.in-Choose.b.value) =
    rw c.in-Choose.is (search (rules, the_lemmas)) in
    let ready = rw seen at c.requires in
    let made = rw c.deref-in-Choose.ensures at c.in_ok-chosen_by-in-Choose.ensures.made in
    let chosen = rw c.deref-in-Choose-2.ensures at c.in_ok-first-in-Choose.ensures.made in
    let zeroth = rw c.deref-in-Choose.ensures at c.in_ok-chosen_by-in-Choose.ensures.listed in
    let first = rw c.deref-in-Choose-2.ensures at c.in_ok-first-in-Choose.ensures.listed in
    let second = rw c.deref-in-Choose-3.ensures at c.in_ok-second-in-Choose.ensures.listed in
    rw seen (IfOk-weaker c.choice.result _ _
    (λ term lists. listed_choice c.args.terms.now c.expr_term-in-Choose.new.terms c.expr_term-in-Choose-2.new.terms
    c.expr_term-in-Choose-3.new.terms c.choice.new.terms c.args.words.now c.expr_term-in-Choose.new.words
    c.expr_term-in-Choose-2.new.words c.expr_term-in-Choose-3.new.words c.choice.new.words c.args.memory.now
    c.expr_term-in-Choose.new.memory c.expr_term-in-Choose-2.new.memory c.expr_term-in-Choose-3.new.memory
    c.args.elements.now c.args.side (view c.in-Choose.condition.value) (view c.in-Choose.a.value)
    (view c.in-Choose.b.value)
    c.in_ok-chosen_by-in-Choose.chosen_by c.in_ok-first-in-Choose.first c.in_ok-second-in-Choose.second term
    (reads (view c.in-Choose.condition.value) + reads (view c.in-Choose.a.value)) ready.each made
    (runs_then c.args.terms.now c.expr_term-in-Choose.new.terms c.expr_term-in-Choose-2.new.terms c.args.words.now
    c.expr_term-in-Choose.new.words c.expr_term-in-Choose-2.new.words c.args.memory.now c.expr_term-in-Choose.new.memory
    c.expr_term-in-Choose-2.new.memory _ _ made.runs chosen.runs) zeroth first second lists) c.choice.ensures.listed)

pub expr_term-returns-in_ok-parts-in-Join-clause-listed : goal.expr_term-returns-in_ok-parts-in-Join-clause-listed
expr_term-returns-in_ok-parts-in-Join-clause-listed t c =
    let seen : view c.args.expr.now ≡ tree.join (trees_of (map view c.in-Join.parts.items)) =
    rw c.in-Join.is (search (rules, the_lemmas)) in
    let listed = rw c.deref-in-Join.ensures.value at c.in_ok-parts-in-Join.ensures.listed in
    rw seen (IfOk-weaker c.joined.result _ _
    (λ term lists. listed_join (λ l. words_of_parts (shape_over c.args.terms.now c.args.elements.now c.args.memory.now)
    c.args.elements.now (writes_of c.args.memory.now c.args.side) (trees_of (map view c.in-Join.parts.items)) l)
    c.args.terms.now
    c.part_terms.new.terms c.joined.new.terms c.args.words.now c.part_terms.new.words c.joined.new.words
    c.args.memory.now c.part_terms.new.memory c.in_ok-parts-in-Join.parts.items term listed lists)
    (rw c.deref-in-Join-2.ensures.value at c.joined.ensures.listed))

pub expr_term-returns-in_ok-address-in-Memory-clause-listed :
    goal.expr_term-returns-in_ok-address-in-Memory-clause-listed
expr_term-returns-in_ok-address-in-Memory-clause-listed t c =
    let seen : view c.args.expr.now ≡ tree.memory (view c.in-Memory.e.value) =
    rw c.in-Memory.is (search (rules, the_lemmas)) in
    let made = rw c.deref-in-Memory.ensures at c.in_ok-address-in-Memory.ensures.made in
    let listed = rw c.deref-in-Memory.ensures at c.in_ok-address-in-Memory.ensures.listed in
    rw seen (IfOk-weaker c.read.result _ _
    (λ term lists. listed_memory c.args.terms.now c.expr_term-in-Memory.new.terms c.read.new.terms c.args.words.now
    c.expr_term-in-Memory.new.words c.read.new.words c.args.memory.now c.expr_term-in-Memory.new.memory c.read.new.self
    c.args.elements.now c.args.side (view c.in-Memory.e.value) c.in_ok-address-in-Memory.address term made listed lists)
    c.read.ensures.listed)
