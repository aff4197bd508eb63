use Rattle.std.proofs.Common.{◌≤◌, ◌++◌, ◌∙◌}
use Rattle.std.specs.Prelude.{codes}
use Rattle.std.proofs.lemmas.List.{take_all}
use Rattle.mw_board.specs.Elements.{Element, elements_of, element_count}
use Rattle.mw_descfile.proofs.Scopes.{taken_more}
use Rattle.mw_descfile.proofs.relation.board_names.Goals as goal

pub loop-number-preserved : goal.loop-number-preserved
loop-number-preserved c =
    c.in_ok-push_element.ensures
    ∙ rw c.loop-number.invariant (taken_more (λ (e : Element). codes "b." ++ e.name) (elements_of c.args.board.now)
    c.loop-number.number)

pub returns : goal.returns
returns c =
    let past : element_count c.args.board.now ≤ c.loop-number.number = rw c.element_count-number-end.ensures at
    c.loop-number-test.false in
    rw (take_all c.loop-number.number (elements_of c.args.board.now) past) at c.loop-number.invariant
