use Rattle.std.proofs.Common.{◌∙◌, sym}
use Rattle.std.proofs.lemmas.List.{get_or_default}
use Rattle.std.proofs.lemmas.Result.{err_from_is_err_and}
use Rattle.mw_board.specs.Check.{point_check}
use Rattle.mw_board.proofs.Each.{each_fails, each_goes_on, each_done}
use Rattle.mw_board.proofs.check.check_each_point.Goals as goal

pub returns-in_err-check_point : goal.returns-in_err-check_point
returns-in_err-check_point c =
    let p = err_from_is_err_and c.from_residual.result c.from_residual.ensures.1 in
    rw (p.1, p.2)
    (each_fails (point_check c.args.fields.now c.args.control.now) c.in_err-check_point.field-0.0 c.args.points.now
    c.loop-n.n _ _ c.loop-n-test.true (get_or_default c.args.points.now c.loop-n.n _ _ c.loop-n-test.true)
    (sym c.check_point.ensures ∙ c.in_err-check_point.was) c.loop-n.invariant)

pub loop-n-preserved : goal.loop-n-preserved
loop-n-preserved c =
    each_goes_on (point_check c.args.fields.now c.args.control.now) c.args.points.now c.loop-n.n _ _ c.loop-n-test.true
    (get_or_default c.args.points.now c.loop-n.n _ _ c.loop-n-test.true)
    (sym c.check_point.ensures ∙ c.in_ok-check_point.was) c.loop-n.invariant

pub returns : goal.returns
returns c =
    each_done (point_check c.args.fields.now c.args.control.now)
    c.args.points.now c.loop-n.n _ c.loop-n-test.false c.loop-n.invariant
