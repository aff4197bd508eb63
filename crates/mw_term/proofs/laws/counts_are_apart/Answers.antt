use Rattle.mw_term.proofs.Cofactors.{counts_are_apart}
use Rattle.mw_term.proofs.laws.counts_are_apart.Goals as goal

pub returns : goal.returns
returns c = counts_are_apart
