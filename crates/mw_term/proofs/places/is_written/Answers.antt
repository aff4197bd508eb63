use Rattle.std.proofs.Common.{arith}
use Rattle.mw_term.proofs.Tables.{widths_count}
use Rattle.mw_term.proofs.places.is_written.Goals as goal

pub returns : goal.returns
returns c =
    let count = widths_count c.args.written.now.ops in (
      λ yes. let inside = c.fits.ensures.0 yes in omega (arith, inside, count),
      λ before. c.fits.ensures.1 (omega (arith, before, count)),
    )
