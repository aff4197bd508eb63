use Rattle.mw_revise.proofs.WithoutWaits.{none_differs_alike}
use Rattle.mw_revise.proofs.laws.none_differs_alike.Goals as goal

pub returns : goal.returns
returns c = none_differs_alike
