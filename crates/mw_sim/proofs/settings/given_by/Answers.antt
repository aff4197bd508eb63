use Rattle.std.proofs.Common.{refl}
use Rattle.std.proofs.lemmas.Result.{err_from_is_err_and}
use Rattle.mw_base.proofs.Lists.{next}
use Rattle.mw_base.proofs.Steps.{goes_on, refused, done}
use Rattle.mw_sim.specs.Views.{given_seen}
use Rattle.mw_sim.proofs.Kept.{line_keeps, nothing_is}
use Rattle.mw_sim.proofs.settings.given_by.Goals as goal

pub loop-line-init : goal.loop-line-init
loop-line-init c = record {
  so_far = rw c.in_ok-given.ensures refl;
  valid = rw c.in_ok-given.ensures (nothing_is c.args.board.now c.args.elements.now c.requires.bounded);
}

pub returns-in_err-add_line-clause-gives : goal.returns-in_err-add_line-clause-gives
returns-in_err-add_line-clause-gives c =
    let p = err_from_is_err_and c.from_residual-in_err-add_line.result c.from_residual-in_err-add_line.ensures.1 in
    rw (p.1, p.2)
    (refused _ (given_seen c.loop-line.given) c.in_err-add_line.field-0.0 c.args.lines.now c.loop-line.line-index
    c.line-item.result _ (next _ _ _ c.loop-line-test.true c.line-item.is) c.in_err-add_line.ensures
    c.loop-line.invariant.so_far)

pub loop-line-preserved : goal.loop-line-preserved
loop-line-preserved c = record {
  so_far = goes_on _ (given_seen c.loop-line.given) (given_seen c.add_line.new.self) c.args.lines.now
      c.loop-line.line-index c.line-item.result _ (next _ _ _ c.loop-line-test.true c.line-item.is)
      c.in_ok-add_line.ensures c.loop-line.invariant.so_far;
  valid = line_keeps c.args.board.now c.args.elements.now c.args.text.now (given_seen c.loop-line.given)
      (given_seen c.add_line.new.self) _ c.in_ok-add_line.ensures c.loop-line.invariant.valid;
}

pub returns-clause-gives : goal.returns-clause-gives
returns-clause-gives c = done _ (given_seen c.loop-line.given) c.args.lines.now c.loop-line.line-index _
    c.loop-line-test.false c.loop-line.invariant.so_far
