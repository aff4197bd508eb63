use Rattle.std.proofs.lemmas.Result.{err_from_is_err_and}
use Rattle.mw_base.proofs.Lists.{next}
use Rattle.mw_base.proofs.Steps.{goes_on, refused, done}
use Rattle.mw_pal.specs.Views.{known_seen}
use Rattle.mw_pal.proofs.first_pass.first_pass.Goals as goal

pub returns-in_err-add_line : goal.returns-in_err-add_line
returns-in_err-add_line c =
    let p = err_from_is_err_and c.from_residual.result c.from_residual.ensures.1 in
    rw (p.1, p.2) (refused _ (known_seen c.loop-line.known)
    c.in_err-add_line.field-0.0 c.args.lines.now c.loop-line.line-index c.line-item.result _
    (next _ _ _ c.loop-line-test.true c.line-item.is) c.in_err-add_line.ensures c.loop-line.invariant)

pub loop-line-preserved : goal.loop-line-preserved
loop-line-preserved c =
    goes_on _ (known_seen c.loop-line.known)
    (known_seen c.add_line.new.self) c.args.lines.now c.loop-line.line-index c.line-item.result _
    (next _ _ _ c.loop-line-test.true c.line-item.is) c.in_ok-add_line.ensures c.loop-line.invariant

pub returns : goal.returns
returns c =
    done _ (known_seen c.loop-line.known)
    c.args.lines.now c.loop-line.line-index _ c.loop-line-test.false c.loop-line.invariant
