use Rattle.mw_short.proofs.Shortcuts.{inner_right}
use Rattle.mw_short.proofs.complement.double_not.Goals as goal

pub returns-in-Not-op-clause-right : goal.returns-in-Not-op-clause-right
returns-in-Not-op-clause-right c =
    let is = rw c.in-Not-op.is at c.op.ensures.exact in
    rw c.in-Not.is (inner_right c.args.terms.now c.in-Not.a c.in-Not-op.field-0 c.op.ensures.table is)
