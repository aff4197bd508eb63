use Rattle.std.proofs.Common.{sym}
use Rattle.std.proofs.lemmas.Result.{err_from_is_err_and}
use Rattle.mw_base.proofs.Lists.{next_or}
use Rattle.mw_base.proofs.Steps.{goes_on, fails, done}
use Rattle.mw_asm.proofs.item_bits.bits_of.Goals as goal

pub returns-in_err-bits : goal.returns-in_err-bits
returns-in_err-bits c =
    let p = err_from_is_err_and c.from_residual.result c.from_residual.ensures.1 in
    rw (p.1, p.2) (sym (fails _ c.loop-item.bits c.in_err-bits.field-0.0 c.args.items.now c.loop-item.item-index _ _
    (next_or _ _ _ c.loop-item-test.true) (sym c.in_err-bits.ensures) c.loop-item.invariant))

pub loop-item-preserved : goal.loop-item-preserved
loop-item-preserved c =
    goes_on _ c.loop-item.bits c.in_ok-bits.bits c.args.items.now c.loop-item.item-index _ _
    (next_or _ _ _ c.loop-item-test.true) (sym c.in_ok-bits.ensures) c.loop-item.invariant

pub returns : goal.returns
returns c =
    sym (done _ c.loop-item.bits c.args.items.now c.loop-item.item-index _ c.loop-item-test.false c.loop-item.invariant)
