use Rattle.mw_symboard.proofs.VariableWidths.{wide_variable}
use Rattle.mw_symrows.proofs.Underway.{first_push}
use Rattle.mw_symrows.proofs.stepping.first_variable.Goals as goal

pub returns-clause-wide : goal.returns-clause-wide
returns-clause-wide c = wide_variable _ _ _ _ _ c.in_ok-term.ensures.made

pub returns-clause-first : goal.returns-clause-first
returns-clause-first c = rw c.in_ok-term.ensures.words (first_push _ _ _ c.requires.first c.requires.kind)
