use Rattle.std.proofs.lemmas.Result.{err_from_is_err_and}
use Rattle.mw_base.proofs.Lists.{next}
use Rattle.mw_base.proofs.Steps.{goes_on, refused, done}
use Rattle.mw_recheck.proofs.reading.read_lines.Goals as goal

pub returns-in_err-reading : goal.returns-in_err-reading
returns-in_err-reading c =
    let p = err_from_is_err_and c.from_residual.result c.from_residual.ensures.1 in
    rw (p.1, p.2) (refused _ c.loop-line.reading c.in_err-reading.field-0.0 c.args.lines.now c.loop-line.line-index
    c.line-item.result _ (next _ _ _ c.loop-line-test.true c.line-item.is) c.in_err-reading.ensures
    c.loop-line.invariant)

pub loop-line-preserved : goal.loop-line-preserved
loop-line-preserved c =
    goes_on _ c.loop-line.reading c.in_ok-reading.reading c.args.lines.now c.loop-line.line-index
    c.line-item.result _ (next _ _ _ c.loop-line-test.true c.line-item.is) c.in_ok-reading.ensures
    c.loop-line.invariant

pub returns : goal.returns
returns c =
    done _ c.loop-line.reading c.args.lines.now c.loop-line.line-index _ c.loop-line-test.false c.loop-line.invariant
