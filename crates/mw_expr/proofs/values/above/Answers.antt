use Rattle.std.proofs.Common.{◌+◌, ◌*◌, ◌%◌, ◌^◌, w32}
use Rattle.std.proofs.Math.Facts.{Fits-of_lt}
use Rattle.mw_base.proofs.Widths.{below_wider, shifted_below}
use Rattle.mw_expr.proofs.values.above.Goals as goal

pub overflow_cast-result-2 : goal.overflow_cast-result-2
overflow_cast-result-2 c =
    let high = c.args.high in
    let low = c.args.low in
    let below = shifted_below high.value low.value high.width low.width c.requires.high_below c.requires.low_below
    c.requires.most in
    let fits = below_wider (high.value * 2 ^ low.width % 2 ^ 64 + low.value)
    (high.width + low.width) 32 below c.requires.most in
    rw (c.from.ensures, c.from-2.ensures) (Fits-of_lt {w = w32} fits)

pub returns-clause-below : goal.returns-clause-below
returns-clause-below c =
    let high = c.args.high in
    let low = c.args.low in
    rw (c.from.ensures, c.from-2.ensures)
    (shifted_below high.value low.value high.width low.width c.requires.high_below c.requires.low_below c.requires.most)
