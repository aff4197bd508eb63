use Rattle.std.proofs.Common.{refl}
use Rattle.mw_term.specs.Cofactors.{with_fixed}
use Rattle.mw_lowtests.proofs.terms.small_order.Goals as goal

pub returns-clause-fixed : goal.returns-clause-fixed
unfolding with_fixed
returns-clause-fixed c = refl
