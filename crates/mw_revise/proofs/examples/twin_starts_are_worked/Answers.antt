use Rattle.mw_revise.proofs.Worked.{first_lines, later_lines, other_inputs}
use Rattle.mw_revise.proofs.examples.twin_starts_are_worked.Goals as goal

pub returns-clause-later_lines : goal.returns-clause-later_lines
returns-clause-later_lines c = later_lines

pub returns-clause-first_lines : goal.returns-clause-first_lines
returns-clause-first_lines c = first_lines

pub returns-clause-inputs : goal.returns-clause-inputs
returns-clause-inputs c = other_inputs
