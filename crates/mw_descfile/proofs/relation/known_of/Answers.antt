use Rattle.std.proofs.lemmas.Result.{err_from_is_err_and}
use Rattle.mw_base.proofs.Lists.{next}
use Rattle.mw_base.proofs.Steps.{goes_on, refused, done}
use Rattle.mw_descfile.specs.RelationViews.{known_seen}
use Rattle.mw_descfile.proofs.RelationLines.{line_kept}
use Rattle.mw_descfile.proofs.relation.known_of.Goals as goal

pub returns-in_err-known-clause-exact : goal.returns-in_err-known-clause-exact
returns-in_err-known-clause-exact c =
    let p = err_from_is_err_and c.from_residual.result c.from_residual.ensures.1 in
    let at = next _ _ _ c.loop-line-test.true c.line-item.is in
    rw (p.1, p.2) (refused _ (known_seen c.loop-line.known) c.in_err-known.field-0.0 c.args.lines.now
    c.loop-line.line-index c.line-item.result _ at c.in_err-known.ensures c.loop-line.invariant.told)

pub loop-line-preserved : goal.loop-line-preserved
loop-line-preserved c =
    let at = next _ _ _ c.loop-line-test.true c.line-item.is in
    record {
      told = goes_on _ (known_seen c.loop-line.known)
          (known_seen c.in_ok-known.known) c.args.lines.now c.loop-line.line-index c.line-item.result _ at
          c.in_ok-known.ensures c.loop-line.invariant.told;
      kept = line_kept c.args.text.now c.args.labels.now c.args.sides.now (known_seen c.loop-line.known)
          (known_seen c.in_ok-known.known) c.line-item.result c.requires.scope c.loop-line.invariant.kept
          c.in_ok-known.ensures;
    }

pub returns-clause-exact : goal.returns-clause-exact
returns-clause-exact c =
    done _ (known_seen c.loop-line.known) c.args.lines.now c.loop-line.line-index _ c.loop-line-test.false
    c.loop-line.invariant.told
