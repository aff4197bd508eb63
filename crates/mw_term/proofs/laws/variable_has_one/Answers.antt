use Rattle.mw_term.proofs.Cofactors.{variable_has_one}
use Rattle.mw_term.proofs.laws.variable_has_one.Goals as goal

pub returns : goal.returns
returns c = variable_has_one
