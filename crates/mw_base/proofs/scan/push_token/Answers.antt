use Rattle.std.proofs.Common.{◌+◌, arith}
use Rattle.mw_base.proofs.Orders.{in_order_push}
use Rattle.mw_base.proofs.scan.push_token.Goals as goal

pub returns-in_ok-push-clause-ordered : goal.returns-in_ok-push-clause-ordered
returns-in_ok-push-clause-ordered c = λ text front spells old.
    let place = c.args.start + c.args.at in
    let next = place + c.args.piece.length in
    let spelled = spells c.in-Some.kind c.in-Some.is in
    rw c.in_ok-push.ensures.items
    (in_order_push text place next front c.args.tokens.now.items _ old (omega arith) (omega (arith, c.requires.some))
    (omega arith) spelled)
