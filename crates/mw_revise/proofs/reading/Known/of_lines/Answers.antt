use Rattle.std.proofs.Common.{refl}
use Rattle.std.proofs.lemmas.Result.{err_from_is_err_and}
use Rattle.mw_base.proofs.Lists.{next}
use Rattle.mw_base.proofs.Steps.{goes_on, refused, done}
use Rattle.mw_revise.proofs.Ranges.{first_is}
use Rattle.mw_revise.proofs.reading.Known.of_lines.Goals as goal

pub loop-line-init : goal.loop-line-init
loop-line-init c = record {
  so_far = rw c.new-known.ensures refl;
  kept = rw c.new-known.ensures (first_is c.args.programs.now.board);
}

pub returns-in_err-known-clause-gives : goal.returns-in_err-known-clause-gives
returns-in_err-known-clause-gives c =
    let p = err_from_is_err_and c.from_residual.result c.from_residual.ensures.1 in
    rw (p.1, p.2) (refused _ c.loop-line.known c.in_err-known.field-0.0 c.args.lines.now c.loop-line.line-index
    c.line-item.result _ (next _ _ _ c.loop-line-test.true c.line-item.is) c.in_err-known.ensures.gives
    c.loop-line.invariant.so_far)

pub loop-line-preserved : goal.loop-line-preserved
loop-line-preserved c = record {
  so_far = goes_on _ c.loop-line.known c.in_ok-known.known c.args.lines.now c.loop-line.line-index
      c.line-item.result _ (next _ _ _ c.loop-line-test.true c.line-item.is) c.in_ok-known.ensures.gives
      c.loop-line.invariant.so_far;
  kept = c.in_ok-known.ensures.kept;
}

pub returns-clause-gives : goal.returns-clause-gives
returns-clause-gives c =
    done _ c.loop-line.known c.args.lines.now c.loop-line.line-index _ c.loop-line-test.false
    c.loop-line.invariant.so_far
