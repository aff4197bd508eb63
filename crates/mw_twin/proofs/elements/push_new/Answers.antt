use Rattle.std.proofs.Common.{◌≡◌, ◌+◌, ◌^◌, ap, arith, slice_index, subst, sym, ◌∙◌}
use Rattle.std.specs.Prelude.{IfSome}
use Rattle.std.proofs.lemmas.Grind.{get_or_default_zero}
use Rattle.mw_board.specs.Elements.{element_count}
use Rattle.mw_revise.specs.Elements.{line_about}
use Rattle.mw_revise.specs.TwinStartWords.{new_element_words, widths_of}
use Rattle.mw_space.specs.Spaces.{list_of_space}
use Rattle.mw_symmem.specs.Memory.{IsOfWidth}
use Rattle.mw_twin.specs.ElementTerms.{HasBelow, HasValuesBelow, IsNew}
use Rattle.mw_twin.specs.ElementWords.{new_maker}
use Rattle.mw_twin.proofs.ElementLines.{bits_are, line_fits}
use Rattle.mw_twin.proofs.ElementTerms.{made_more, new_by_same, new_stays}
use Rattle.mw_twin.proofs.ElementWords.{elements_step, width_at, widths_count}
use Rattle.mw_twin.proofs.elements.push_new.Goals as goal

pub new_term-requires-clause-fits : goal.new_term-requires-clause-fits
new_term-requires-clause-fits c =
    let about = c.line_about-about.ensures ∙ ap (λ lines. line_about lines c.args.number) c.as_slice.ensures in
    subst (λ o. IfSome o (HasValuesBelow (2 ^ c.width_of-width.result))) (sym about)
    (line_fits c.args.board.now c.args.block.now.lines c.args.number _ c.requires.block.lines
    c.width_of-width.ensures.exact)

pub new_term-requires-clause-kept : goal.new_term-requires-clause-kept
new_term-requires-clause-kept c =
    let terms = c.args.space.now.terms in
    let kept : c.index-before-number.result ≡ slice_index c.args.before.now c.args.number =
    c.index-before-number.is
    ∙ get_or_default_zero c.args.before.now c.args.number _ (omega (arith, c.requires.there, c.requires.count)) in
    subst (λ x. IsOfWidth terms c.width_of-width.result x) (sym kept)
    (subst (λ w. IsOfWidth terms w (slice_index c.args.before.now c.args.number))
    (sym (bits_are c.args.board.now c.args.number _ c.requires.there c.width_of-width.ensures.exact))
    (c.requires.before c.args.number c.requires.there))

pub returns-clause-so_far : goal.returns-clause-so_far
returns-clause-so_far c =
    let board = c.args.board.now in
    let lines = c.args.block.now.lines in
    let before = c.args.before.now in
    let number = c.args.number in
    let new = c.new_term.new.space in
    let term = c.in_ok-term.term in
    let made = c.in_ok-term.ensures in
    let about = c.line_about-about.ensures ∙ ap (λ ls. line_about ls number) c.as_slice.ensures in
    let wide = subst (λ w. IsOfWidth new.terms w term)
    (bits_are board number _ c.requires.there c.width_of-width.ensures.exact) made.wide in
    let kept : c.index-before-number.result ≡ slice_index before number =
    c.index-before-number.is
    ∙ get_or_default_zero c.args.before.now c.args.number _ (omega (arith, c.requires.there, c.requires.count)) in
    let next = subst (λ n. HasBelow n new) (omega (arith, c.count_of.ensures.exact)) made.below in
    rw c.in_ok-push.ensures.items
    (made_more board (IsNew board lines before) number (element_count board + number)
    (element_count board + (number + 1)) c.args.space.now new c.args.after.now.items term
    (new_stays board lines before) c.requires.so_far made.on next wide
    (new_by_same _ (line_about lines number) _ (slice_index before number) _ (element_count board + number) new.terms
    new.words term about kept (ap (λ n. n + number) c.count_of.ensures.exact) made.is))

pub returns-clause-listed : goal.returns-clause-listed
returns-clause-listed c =
    let board = c.args.board.now in
    let lines = c.args.block.now.lines in
    let before = c.args.before.now in
    let number = c.args.number in
    let width = c.width_of-width.result in
    let old = list_of_space c.args.space.now in
    let about = c.line_about-about.ensures ∙ ap (λ ls. line_about ls number) c.as_slice.ensures in
    let kept : c.index-before-number.result ≡ slice_index before number =
    c.index-before-number.is
    ∙ get_or_default_zero c.args.before.now c.args.number _ (omega (arith, c.requires.there, c.requires.count)) in
    rw c.in_ok-push.ensures.items
    (elements_step (new_maker board lines before) (widths_of board) number width c.in_ok-term.term
    c.args.after.now.items old (list_of_space c.new_term.new.space)
    (omega (arith, c.requires.there, widths_count board))
    (width_at board number width c.width_of-width.ensures.exact)
    (c.in_ok-term.ensures.listed
    ∙ ap (λ n. new_element_words c.line_about-about.result (n + number) width c.index-before-number.result old)
    c.count_of.ensures.exact
    ∙ ap (λ k. new_element_words c.line_about-about.result (element_count board + number) width k old) kept
    ∙ ap (λ o. new_element_words o (element_count board + number) width (slice_index before number) old) about))
