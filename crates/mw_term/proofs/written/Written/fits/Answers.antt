use Rattle.mw_term.proofs.written.Written.fits.Goals as goal

pub fits-requires : goal.fits-requires
fits-requires c = rw c.earlier.ensures.widths c.earlier.ensures.range
