use Rattle.std.proofs.Common.{length, refl, arith}
use Rattle.std.proofs.lemmas.Grind.{common_steps}
use Rattle.std.proofs.lemmas.Result.{err_from_is_err_and}
use Rattle.mw_board.specs.Check.{flipflops_from}
use Rattle.mw_boardfile.proofs.Kept.{flipflops_grow, no_flipflops_keep}
use Rattle.mw_boardfile.proofs.Loops.{flipflop_ends, flipflop_goes_on, flipflops_end}
use Rattle.mw_boardfile.proofs.flipflops.flipflops.Goals as goal

pub loop-n-init : goal.loop-n-init
unfolding flipflops_from
loop-n-init c =
    rw c.new-done.ensures.items
    (refl, refl, omega arith, no_flipflops_keep c.args.sizes c.args.fields.now (length c.args.flipflops.now))

pub returns-in_err-flipflop-clause-gives : goal.returns-in_err-flipflop-clause-gives
returns-in_err-flipflop-clause-gives c =
    let p = err_from_is_err_and c.from_residual.result c.from_residual.ensures.1 in
    rw (p.1, p.2) (flipflop_ends c.args.sizes c.args.fields.now c.loop-n.done.items c.in_err-flipflop.field-0.0
    c.args.flipflops.now c.loop-n.n c.index-flipflops-n.result _ c.loop-n-test.true c.index-flipflops-n.is
    (rw (← c.deref.ensures.value) c.in_err-flipflop.ensures.gives) c.loop-n.invariant.0)

pub loop-n-preserved : goal.loop-n-preserved
loop-n-preserved c =
    let read = flipflop_goes_on c.args.sizes c.args.fields.now c.loop-n.done.items c.in_ok-flipflop.flipflop
    c.args.flipflops.now c.loop-n.n c.index-flipflops-n.result _ c.loop-n-test.true c.index-flipflops-n.is
    (rw (← c.deref.ensures.value) c.in_ok-flipflop.ensures.gives) c.loop-n.invariant.0 in
    let count = c.loop-n.invariant.1 in
    let within = c.loop-n-test.true in
    let keep = flipflops_grow c.args.sizes c.args.fields.now (length c.args.flipflops.now) c.loop-n.done.items
    c.in_ok-flipflop.flipflop c.loop-n.invariant.3 (rw (← c.deref.ensures.value) c.in_ok-flipflop.ensures.kept) in
    rw c.in_ok-push.ensures.items (read, grind (arith, common_steps, count), omega (arith, within), keep)

pub returns-clause-gives : goal.returns-clause-gives
returns-clause-gives c =
    rw c.from_vec.ensures (flipflops_end c.args.sizes c.args.fields.now c.loop-n.done.items c.args.flipflops.now
    c.loop-n.n _ c.loop-n-test.false c.loop-n.invariant.0)
