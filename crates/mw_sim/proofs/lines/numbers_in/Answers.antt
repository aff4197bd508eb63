use Rattle.std.proofs.Common.{ap, subst, sym, ◌∙◌}
use Rattle.std.proofs.lemmas.Result.{err_from_is_err_and}
use Rattle.mw_base.specs.Reading.{Fails}
use Rattle.mw_base.proofs.Lists.{next_or}
use Rattle.mw_base.proofs.Steps.{goes_on, refused, done}
use Rattle.mw_sim.specs.Lines.{with_number, numbers_in}
use Rattle.mw_sim.proofs.lines.numbers_in.Goals as goal

pub returns-in_err-push_number : goal.returns-in_err-push_number
returns-in_err-push_number c =
    let p = err_from_is_err_and c.from_residual.result c.from_residual.ensures.1 in
    let refusal = refused (with_number c.args.line.now) c.loop-token.numbers.items c.in_err-push_number.field-0.0
    c.tokens-tokens.result.now c.loop-token.token-index _ _ (next_or _ _ _ c.loop-token-test.true)
    c.in_err-push_number.ensures c.loop-token.invariant in
    rw (p.1, p.2) (subst (λ tokens. Fails c.in_err-push_number.field-0.0 (numbers_in c.args.line.now tokens))
    c.tokens-tokens.ensures refusal)

pub loop-token-preserved : goal.loop-token-preserved
loop-token-preserved c =
    goes_on (with_number c.args.line.now) c.loop-token.numbers.items c.push_number.new.numbers.items
    c.tokens-tokens.result.now c.loop-token.token-index _ _ (next_or _ _ _ c.loop-token-test.true)
    c.in_ok-push_number.ensures c.loop-token.invariant

pub returns : goal.returns
returns c =
    ap (numbers_in c.args.line.now) (sym c.tokens-tokens.ensures)
    ∙ done (with_number c.args.line.now) c.loop-token.numbers.items c.tokens-tokens.result.now
    c.loop-token.token-index _ c.loop-token-test.false c.loop-token.invariant
