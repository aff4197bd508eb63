use Rattle.std.proofs.lemmas.Result.{err_from_is_err_and}
use Rattle.mw_base.proofs.Lists.{next_or}
use Rattle.mw_asm.proofs.ItemSteps.{refused_at, all_passed, ends_early}
use Rattle.mw_asm.proofs.items.items_of.Goals as goal

pub returns-in_err-awaits : goal.returns-in_err-awaits
returns-in_err-awaits c =
    let within = rw c.tokens-token-items.ensures at c.loop-token-test.true in
    let refused = rw c.tokens-token-items.ensures at c.in_err-awaits.ensures.refused in
    let p = err_from_is_err_and c.from_residual.result c.from_residual.ensures.1 in
    rw (p.1, p.2) (refused_at c.in_err-awaits.field-0.0 c.loop-token.items.items c.args.line.now c.args.line.now.tokens
    c.loop-token.token-index _ c.loop-token.awaits _ (next_or _ _ _ within) refused c.loop-token.invariant)

pub returns-in_ok-push-in-Some : goal.returns-in_ok-push-in-Some
returns-in_ok-push-in-Some c =
    let past = rw c.tokens-token-items.ensures at c.loop-token-test.false in
    rw (c.from_vec.ensures, c.in_ok-push-in-Some.ensures.items)
    (all_passed c.loop-token.items.items c.args.line.now c.args.line.now.tokens c.loop-token.token-index
    c.loop-token.awaits c.in-Some.item _ past c.in-Some.ensures c.loop-token.invariant)

pub returns-in-None : goal.returns-in-None
returns-in-None c =
    let past = rw c.tokens-token-items.ensures at c.loop-token-test.false in
    rw c.end_fault.ensures (ends_early c.loop-token.items.items c.args.line.now c.args.line.now.tokens
    c.loop-token.token-index c.loop-token.awaits _ past c.in-None.ensures c.loop-token.invariant)
