use Rattle.std.proofs.Common.{◌≡◌, length, arith}
use Rattle.mw_term.proofs.Kept.{kept_push, push_made, push_keeps, table_push}
use Rattle.mw_term.proofs.written.Written.write.Goals as goal

pub invariant_of-self-in-Ok-push : goal.invariant_of-self-in-Ok-push
invariant_of-self-in-Ok-push c =
    let fits = rw (← c.self.view_is) at c.requires in
    let width = rw (← c.self.view_is) at c.width_over-width.ensures in
    rw (c.in_ok-push.ensures.items, c.in-Ok-push.ensures.items)
    (kept_push c.self.inside.ops.items c.self.inside.widths.items c.self.inside.map.items c.args.op
    c.width_over-width.result
    c.self.invariant fits width)

pub returns-in-Ok-push-clause-made : goal.returns-in-Ok-push-clause-made
returns-in-Ok-push-clause-made c =
    let place : c.at.result ≡ length c.self.inside.ops.items =
    omega (arith, c.at.ensures, c.in-Ok.ensures.1, c.len.ensures) in
    rw (← c.self.view_is, c.in_ok-push.ensures.items, place)
    (push_made c.self.inside.ops.items c.self.inside.map.items c.args.op)

pub returns-in-Ok-push-clause-keeps : goal.returns-in-Ok-push-clause-keeps
returns-in-Ok-push-clause-keeps c =
    rw (← c.self.view_is, c.in_ok-push.ensures.items)
    (push_keeps c.self.inside.ops.items c.self.inside.map.items c.args.op)

pub returns-in-Ok-push-clause-table : goal.returns-in-Ok-push-clause-table
returns-in-Ok-push-clause-table c =
    let fits = rw (← c.self.view_is) at c.requires in
    rw c.in_ok-push.ensures.items
    (table_push c.self.inside.ops.items c.self.inside.map.items c.args.op c.self.invariant.table fits)
