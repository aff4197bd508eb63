use Rattle.std.proofs.Common.{refl}
use Rattle.std.proofs.lemmas.Result.{err_from_is_err_and}
use Rattle.mw_base.proofs.Lists.{next}
use Rattle.mw_base.proofs.Steps.{goes_on, refused, done}
use Rattle.mw_debug.specs.Views.{reading_seen}
use Rattle.mw_debug.proofs.Readings.{nothing_is}
use Rattle.mw_debug.proofs.reading.reading_of.Goals as goal

pub loop-line-init : goal.loop-line-init
loop-line-init c = record {
  so_far = rw c.nothing-reading.ensures refl;
  kept = rw c.nothing-reading.ensures (nothing_is c.args.board.now);
}

pub returns-in_err-add_line-clause-gives : goal.returns-in_err-add_line-clause-gives
returns-in_err-add_line-clause-gives c =
    let p = err_from_is_err_and c.from_residual.result c.from_residual.ensures.1 in
    rw (p.1, p.2)
    (refused _ (reading_seen c.loop-line.reading) c.in_err-add_line.field-0.0 c.args.lines.now c.loop-line.line-index
    c.line-item.result _ (next _ _ _ c.loop-line-test.true c.line-item.is) c.in_err-add_line.ensures.gives
    c.loop-line.invariant.so_far)

pub loop-line-preserved : goal.loop-line-preserved
loop-line-preserved c = record {
  so_far = goes_on _ (reading_seen c.loop-line.reading) (reading_seen c.add_line.new.self) c.args.lines.now
      c.loop-line.line-index c.line-item.result _ (next _ _ _ c.loop-line-test.true c.line-item.is)
      c.in_ok-add_line.ensures.gives c.loop-line.invariant.so_far;
  kept = c.in_ok-add_line.ensures.kept;
}

pub returns-clause-gives : goal.returns-clause-gives
returns-clause-gives c = done _ (reading_seen c.loop-line.reading) c.args.lines.now c.loop-line.line-index _
    c.loop-line-test.false c.loop-line.invariant.so_far
