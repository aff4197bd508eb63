use Rattle.mw_term.proofs.Cofactors.{terminal_cases_have_none}
use Rattle.mw_term.proofs.laws.terminal_cases_have_none.Goals as goal

pub returns : goal.returns
returns c = terminal_cases_have_none
