use Rattle.std.proofs.Common.{◌+◌, ◌^◌, ap, arith, subst, sym, ◌∙◌}
use Rattle.std.specs.Prelude.{IfSome}
use Rattle.mw_revise.specs.Elements.{line_about}
use Rattle.mw_revise.specs.TwinStartWords.{old_element_words, widths_of}
use Rattle.mw_space.specs.Spaces.{list_of_space}
use Rattle.mw_symmem.specs.Memory.{IsOfWidth}
use Rattle.mw_twin.specs.ElementTerms.{HasValuesBelow, IsOld}
use Rattle.mw_twin.specs.ElementWords.{old_maker}
use Rattle.mw_twin.proofs.ElementLines.{bits_are, line_fits}
use Rattle.mw_twin.proofs.ElementTerms.{made_more, old_by_same, old_stays}
use Rattle.mw_twin.proofs.ElementWords.{elements_step, width_at, widths_count}
use Rattle.mw_twin.proofs.elements.push_old.Goals as goal

pub old_term-requires-clause-fits : goal.old_term-requires-clause-fits
old_term-requires-clause-fits c =
    let about = c.line_about-about.ensures ∙ ap (λ lines. line_about lines c.args.number) c.as_slice.ensures in
    subst (λ o. IfSome o (HasValuesBelow (2 ^ c.width_of-width.result))) (sym about)
    (line_fits c.args.board.now c.args.block.now.lines c.args.number _ c.requires.block.lines
    c.width_of-width.ensures.exact)

pub returns-clause-so_far : goal.returns-clause-so_far
returns-clause-so_far c =
    let board = c.args.board.now in
    let lines = c.args.block.now.lines in
    let number = c.args.number in
    let new = c.old_term.new.space in
    let term = c.in_ok-term.term in
    let made = c.in_ok-term.ensures in
    let about = c.line_about-about.ensures ∙ ap (λ ls. line_about ls number) c.as_slice.ensures in
    let wide = subst (λ w. IsOfWidth new.terms w term)
    (bits_are board number _ c.requires.there c.width_of-width.ensures.exact) made.wide in
    rw c.in_ok-push.ensures.items
    (made_more board (IsOld lines) number number (number + 1) c.args.space.now new c.args.before.now.items term
    (old_stays lines) c.requires.so_far made.on made.below wide
    (old_by_same _ (line_about lines number) number new.terms new.words term about made.is))

pub returns-clause-listed : goal.returns-clause-listed
returns-clause-listed c =
    let board = c.args.board.now in
    let lines = c.args.block.now.lines in
    let number = c.args.number in
    let width = c.width_of-width.result in
    let old = list_of_space c.args.space.now in
    let about = c.line_about-about.ensures ∙ ap (λ ls. line_about ls number) c.as_slice.ensures in
    rw c.in_ok-push.ensures.items
    (elements_step (old_maker lines) (widths_of board) number width c.in_ok-term.term c.args.before.now.items old
    (list_of_space c.old_term.new.space) (omega (arith, c.requires.there, widths_count board))
    (width_at board number width c.width_of-width.ensures.exact)
    (c.in_ok-term.ensures.listed ∙ ap (λ o. old_element_words o number width old) about))
