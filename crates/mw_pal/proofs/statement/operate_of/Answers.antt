use Rattle.mw_base.proofs.Lists.{next_or}
use Rattle.mw_pal.proofs.Wording.{adds, stops, ends}
use Rattle.mw_pal.proofs.statement.operate_of.Goals as goal

pub returns-in-None : goal.returns-in-None
returns-in-None c =
    let within = rw c.tokens-token-items.ensures at c.loop-token-test.true in
    let none = rw (c.spelled.ensures, c.tokens-token-items.ensures) at c.in-None.ensures in
    rw (c.misplaced.ensures, c.tokens-token-items.ensures) (stops c.args.line.now c.loop-token.words.items
    c.loop-token.token-index _ (next_or _ _ _ within) none c.loop-token.invariant)

pub loop-token-preserved : goal.loop-token-preserved
loop-token-preserved c =
    let within = rw c.tokens-token-items.ensures at c.loop-token-test.true in
    let found = rw (c.spelled.ensures, c.tokens-token-items.ensures) at c.in-Some.ensures in
    rw (c.in_ok-push-in-Some.ensures.items, c.tokens-token-items.ensures) (adds c.args.line.now
    c.loop-token.words.items c.loop-token.token-index _ c.in-Some.operation (next_or _ _ _ within) found
    c.loop-token.invariant)

pub returns : goal.returns
returns c =
    let past = rw c.tokens-token-items.ensures at c.loop-token-test.false in
    rw c.from_vec.ensures (ends c.args.line.now c.loop-token.words.items c.loop-token.token-index past
    c.loop-token.invariant)
