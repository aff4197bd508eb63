use Rattle.std.proofs.Common.{ap, ◌∙◌, sym}
use Rattle.std.proofs.lemmas.Result.{err_from_is_err_and}
use Rattle.mw_board.specs.Check.{list_check}
use Rattle.mw_board.specs.Following.{place_of}
use Rattle.mw_board.proofs.Each.{second_fails, third_answers}
use Rattle.mw_board.proofs.check.chosen_list.Goals as goal

pub returns-in_err-each : goal.returns-in_err-each
unfolding list_check
returns-in_err-each g c = λ test follows.
    let p = err_from_is_err_and c.from_residual-in_err-each.result c.from_residual-in_err-each.ensures.1 in
    rw (p.1, p.2) (sym (second_fails _ (ap (place_of c.args.list 0) (sym c.chosen_rule.ensures)
    ∙ sym c.placed_in.ensures
    ∙ c.in_ok-placed_in.was) (sym (c.each.ensures test follows) ∙ c.in_err-each.was)))

pub returns : goal.returns
unfolding list_check
returns g c = λ test follows.
    c.placed_in-2.ensures ∙ ap (place_of c.args.list 0) c.list_rule.ensures ∙ sym (third_answers
    (ap (place_of c.args.list 0) (sym c.chosen_rule.ensures) ∙ sym c.placed_in.ensures ∙ c.in_ok-placed_in.was)
    (sym (c.each.ensures test follows) ∙ c.in_ok-each.was))
