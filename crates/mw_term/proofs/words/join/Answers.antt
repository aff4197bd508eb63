use Rattle.std.proofs.Common.{◌+◌, ◌*◌, ◌%◌, ◌^◌, w32}
use Rattle.std.proofs.Math.Facts.{Fits-of_lt}
use Rattle.mw_base.proofs.Widths.{below_wider, shifted_below}
use Rattle.mw_term.proofs.words.join.Goals as goal

pub overflow_cast-result-2 : goal.overflow_cast-result-2
overflow_cast-result-2 c =
    let width = c.args.high_width + c.args.low_width in
    let below =
    shifted_below c.args.high c.args.low c.args.high_width c.args.low_width c.requires.high_below c.requires.low_below
    c.requires.most in
    let fits = below_wider (c.args.high * 2 ^ c.args.low_width % 2 ^ 64 + c.args.low) width 32 below c.requires.most in
    rw (c.from.ensures, c.from-2.ensures) (Fits-of_lt {w = w32} fits)
