use Rattle.std.proofs.Common.{◌∙◌, sym}
use Rattle.std.proofs.lemmas.Result.{err_from_is_err_and}
use Rattle.mw_board.proofs.Each.{flipflop_fails, flipflop_goes_on, flipflops_done}
use Rattle.mw_board.proofs.check.check_each_flipflop.Goals as goal

pub returns-in_err-check_flipflop : goal.returns-in_err-check_flipflop
returns-in_err-check_flipflop c =
    let p = err_from_is_err_and c.from_residual.result c.from_residual.ensures.1 in
    rw (p.1, p.2) (flipflop_fails c.args.parts.now
    c.in_err-check_flipflop.field-0.0 c.args.flipflops.now c.loop-i.i c.index-flipflops-i.result _ c.loop-i-test.true
    c.index-flipflops-i.is (sym c.check_flipflop.ensures ∙ c.in_err-check_flipflop.was) c.loop-i.invariant)

pub loop-i-preserved : goal.loop-i-preserved
loop-i-preserved c =
    flipflop_goes_on c.args.parts.now
    c.args.flipflops.now c.loop-i.i c.index-flipflops-i.result _ c.loop-i-test.true c.index-flipflops-i.is
    (sym c.check_flipflop.ensures ∙ c.in_ok-check_flipflop.was) c.loop-i.invariant

pub returns : goal.returns
returns c =
    flipflops_done c.args.parts.now
    c.args.flipflops.now c.loop-i.i _ c.loop-i-test.false c.loop-i.invariant
