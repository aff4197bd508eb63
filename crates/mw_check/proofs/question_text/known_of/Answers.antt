use Rattle.std.proofs.Common.{rules, sym, subst}
use Rattle.std.proofs.lemmas.Result.{err_from_is_err_and}
use Rattle.mw_base.proofs.Lists.{next}
use Rattle.mw_base.proofs.Steps.{goes_on, refused, done}
use Rattle.mw_check.specs.QuestionKept.{AreVariables}
use Rattle.mw_check.specs.QuestionText.{Variables, shape_over}
use Rattle.mw_check.specs.QuestionViews.{known_seen}
use Rattle.mw_check.proofs.QuestionLines.{none_kept, line_kept}
use Rattle.mw_check.proofs.question_text.known_of.Goals as goal

pub loop-line-init : goal.loop-line-init
loop-line-init c = record {
  told = search rules;
  kept = subst (λ (v : Variables). AreVariables v.names (shape_over v.widths)) (sym c.new.ensures) none_kept;
}

pub returns-in_err-known : goal.returns-in_err-known
returns-in_err-known c =
    let p = err_from_is_err_and c.from_residual.result c.from_residual.ensures.1 in
    let at = next _ _ _ c.loop-line-test.true c.line-item.is in
    rw (p.1, p.2) (refused _ (known_seen c.loop-line.known) c.in_err-known.field-0.0 c.args.lines.now
    c.loop-line.line-index c.line-item.result _ at c.in_err-known.ensures c.loop-line.invariant.told)

pub loop-line-preserved : goal.loop-line-preserved
loop-line-preserved c =
    let at = next _ _ _ c.loop-line-test.true c.line-item.is in
    record {
      told = goes_on _ (known_seen c.loop-line.known)
          (known_seen c.in_ok-known.known) c.args.lines.now c.loop-line.line-index c.line-item.result _ at
          c.in_ok-known.ensures c.loop-line.invariant.told;
      kept = line_kept c.args.text.now (known_seen c.loop-line.known)
          (known_seen c.in_ok-known.known) c.line-item.result c.in_ok-known.ensures c.loop-line.invariant.kept;
    }

pub returns : goal.returns
returns c =
    done _ (known_seen c.loop-line.known) c.args.lines.now c.loop-line.line-index _ c.loop-line-test.false
    c.loop-line.invariant.told
