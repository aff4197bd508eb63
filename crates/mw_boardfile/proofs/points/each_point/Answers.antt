use Rattle.std.proofs.Common.{◌∙◌, ap, get_or, refl}
use Rattle.std.proofs.lemmas.List.{get_or_default}
use Rattle.std.proofs.lemmas.Result.{err_from_is_err_and}
use Rattle.toml.specs.Data.{get_member}
use Rattle.mw_board.specs.declared.point.Point.TheVariants.{AluSource}
use Rattle.mw_boardfile.specs.Views.{members}
use Rattle.mw_boardfile.proofs.Kept.{default_keeps}
use Rattle.mw_boardfile.proofs.Loops.{point_ends, point_goes_on, points_end}
use Rattle.mw_boardfile.proofs.points.each_point.Goals as goal

pub loop-point-init : goal.loop-point-init
loop-point-init c = (refl, default_keeps c.args.fields.now)

pub returns-in_err-drivers-clause-gives : goal.returns-in_err-drivers-clause-gives
returns-in_err-drivers-clause-gives c =
    let p = err_from_is_err_and c.from_residual.result c.from_residual.ensures.1 in
    let value = c.member_of-value.ensures ∙ ap (λ name. get_member name (members c.args.table)) c.name.ensures in
    let point = get_or c.args.points.now c.loop-point.point-index AluSource in
    rw (p.1, p.2) (point_ends c.args.fields.now (members c.args.table) c.loop-point.drivers c.in_err-drivers.field-0.0
    c.args.points.now c.loop-point.point-index point _ c.loop-point-test.true
    (get_or_default c.args.points.now c.loop-point.point-index _ _ c.loop-point-test.true)
    (rw (← value) c.in_err-drivers.ensures.gives) c.loop-point.invariant.0)

pub loop-point-preserved : goal.loop-point-preserved
loop-point-preserved c =
    let value = c.member_of-value.ensures ∙ ap (λ name. get_member name (members c.args.table)) c.name.ensures in
    let point = get_or c.args.points.now c.loop-point.point-index AluSource in (
      point_goes_on c.args.fields.now (members c.args.table) c.loop-point.drivers c.in_ok-drivers.drivers
          c.args.points.now c.loop-point.point-index point _ c.loop-point-test.true
          (get_or_default c.args.points.now c.loop-point.point-index _ _ c.loop-point-test.true)
          (rw (← value) c.in_ok-drivers.ensures.gives) c.loop-point.invariant.0,
      c.in_ok-drivers.ensures.kept c.loop-point.invariant.1,
    )

pub returns-clause-gives : goal.returns-clause-gives
returns-clause-gives c =
    points_end c.args.fields.now (members c.args.table)
    c.loop-point.drivers c.args.points.now c.loop-point.point-index _ c.loop-point-test.false c.loop-point.invariant.0
