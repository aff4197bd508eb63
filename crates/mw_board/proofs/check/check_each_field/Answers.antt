use Rattle.std.proofs.Common.{◌∙◌, sym}
use Rattle.std.proofs.lemmas.Result.{err_from_is_err_and}
use Rattle.mw_board.specs.Check.{field_check}
use Rattle.mw_board.proofs.Each.{each_fails, each_goes_on, each_done}
use Rattle.mw_board.proofs.check.check_each_field.Goals as goal

pub returns-in_err-check_field : goal.returns-in_err-check_field
returns-in_err-check_field c =
    let p = err_from_is_err_and c.from_residual.result c.from_residual.ensures.1 in
    rw (p.1, p.2) (each_fails (field_check c.args.microword) c.in_err-check_field.field-0.0 c.args.fields.now c.loop-n.n
    c.index-fields-n.result _ c.loop-n-test.true c.index-fields-n.is
    (sym c.check_field.ensures ∙ c.in_err-check_field.was) c.loop-n.invariant)

pub loop-n-preserved : goal.loop-n-preserved
loop-n-preserved c =
    each_goes_on (field_check c.args.microword) c.args.fields.now c.loop-n.n c.index-fields-n.result _
    c.loop-n-test.true c.index-fields-n.is (sym c.check_field.ensures ∙ c.in_ok-check_field.was) c.loop-n.invariant

pub returns : goal.returns
returns c =
    each_done (field_check c.args.microword) c.args.fields.now c.loop-n.n _ c.loop-n-test.false c.loop-n.invariant
