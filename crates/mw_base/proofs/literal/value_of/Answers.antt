use Rattle.std.proofs.Common.{◌≡◌, ◌*◌, arith, refl, take}
use Rattle.mw_base.specs.Literals.{value_of}
use Rattle.mw_base.proofs.Totals.{value_ge}
use Rattle.mw_base.proofs.literal.value_of.Goals as goal

pub returns-in_err-more-clause-none : goal.returns-in_err-more-clause-none
returns-in_err-more-clause-none c =
    let ge = value_ge c.args.base c.loop-c.c-index c.args.text.now (omega (arith, c.requires)) (omega arith) in
    let same : c.loop-c.value * c.from.result
    ≡ value_of c.args.base (take c.loop-c.c-index c.args.text.now) * c.args.base =
    rw (c.loop-c.invariant, c.from.ensures) refl in
    let wide = c.in_err-more.ensures in
    rw c.from_residual.ensures (omega (arith, wide))

pub returns-in_err-value-clause-none : goal.returns-in_err-value-clause-none
returns-in_err-value-clause-none c =
    let ge = value_ge c.args.base c.loop-c.c-index c.args.text.now (omega (arith, c.requires)) (omega arith) in
    let same : c.loop-c.value * c.from.result
    ≡ value_of c.args.base (take c.loop-c.c-index c.args.text.now) * c.args.base =
    rw (c.loop-c.invariant, c.from.ensures) refl in
    let wide = c.in_err-value.ensures in
    let product = c.in_ok-more.ensures in
    let last = c.digit_of.ensures in
    rw c.from_residual-in_err-value.ensures (omega (arith, wide, product.1, c.from-in-loop-c.ensures))
