use Rattle.mw_term.proofs.Fixed.{fixed_are_before}
use Rattle.mw_term.proofs.laws.fixed_are_before.Goals as goal

pub returns : goal.returns
returns c = fixed_are_before
