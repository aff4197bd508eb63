use Rattle.std.proofs.Common.{◌∙◌}
use Rattle.mw_term.proofs.Tables.{widths_range}
use Rattle.mw_term.proofs.written.Written.earlier.Goals as goal

pub returns-clause-widths : goal.returns-clause-widths
returns-clause-widths c = rw (← c.self.view_is) (c.deref-2.ensures.value ∙ c.self.invariant.widths)

pub returns-clause-range : goal.returns-clause-range
returns-clause-range c = rw (← c.self.view_is) (widths_range _ c.self.invariant.table)
