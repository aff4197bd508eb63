use Rattle.std.proofs.Common.{arith}
use Rattle.mw_term.proofs.Tables.{widths_range}
use Rattle.mw_term.proofs.constant.constant_value.Goals as goal

pub overflow_shr-value_of : goal.overflow_shr-value_of
overflow_shr-value_of c =
    let fits = rw c.in-Part.is at c.requires.fits in
    let range = widths_range c.args.terms.now c.value_of-in-Part.ensures.table c.in-Part.a fits.0 in
    omega (arith, fits.1, fits.2, range)
