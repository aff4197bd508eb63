use Rattle.mw_term.proofs.written.Written.width_over.Goals as goal

pub width-requires-clause-range : goal.width-requires-clause-range
width-requires-clause-range c = rw c.earlier.ensures.widths c.earlier.ensures.range
