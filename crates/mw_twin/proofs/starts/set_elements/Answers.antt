use Rattle.std.proofs.Common.{◌≡◌, ◌<◌, ◌^◌, arith, slice_index, subst, sym, ◌∙◌}
use Rattle.std.proofs.lemmas.Grind.{get_or_default_zero}
use Rattle.mw_board.specs.Elements.{element_count}
use Rattle.mw_cycle.specs.Elements.{bits_of, element_of}
use Rattle.mw_symmem.specs.Memory.{IsOfWidth}
use Rattle.mw_symmem.proofs.Images.{value_within}
use Rattle.mw_term.specs.Assigned.{given_by}
use Rattle.mw_twin.proofs.StartStates.{value_fits}
use Rattle.mw_twin.proofs.starts.set_elements.Goals as goal

pub set_element-requires-clause-value_in : goal.set_element-requires-clause-value_in
set_element-requires-clause-value_in c =
    let board = c.args.board.now in
    let n = c.loop-number.number in
    let t = c.args.space.now.terms in
    let given = given_by c.args.given.now in
    let there : n < element_count board = omega (arith, c.loop-number-test.true, c.element_count-number-end.ensures) in
    let bits = bits_of board (element_of board n) in
    let own : c.index-terms-number.result ≡ slice_index c.args.terms.now n =
    c.index-terms-number.is ∙ get_or_default_zero c.args.terms.now n _ (omega (arith, there, c.requires.count)) in
    let wide = subst (IsOfWidth t bits) (sym own) (c.requires.wide n there) in
    value_fits board n c.in_ok-value.value there
    (subst (λ v. v < 2 ^ bits) (sym c.in_ok-value.ensures.exact)
    (value_within t given bits c.index-terms-number.result c.requires.table wide))
