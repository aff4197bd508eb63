use Rattle.mw_symboard.proofs.VariableWidths.{wide_variable}
use Rattle.mw_symrows.proofs.Starting.{free_push}
use Rattle.mw_symrows.proofs.workspace.variable.Goals as goal

pub returns-clause-wide : goal.returns-clause-wide
returns-clause-wide c = wide_variable _ _ _ _ _ c.in_ok-term.ensures.made

pub returns-clause-free : goal.returns-clause-free
returns-clause-free c = rw c.in_ok-term.ensures.words (free_push _ _ _ c.requires.free c.requires.kind)
