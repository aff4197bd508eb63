use Rattle.mw_term.proofs.Cofactors.{later_has_two}
use Rattle.mw_term.proofs.laws.later_has_two.Goals as goal

pub returns : goal.returns
returns c = later_has_two
