use Rattle.mw_revise.proofs.WithoutWaits.{twin_differences_are_thinned}
use Rattle.mw_revise.proofs.laws.twin_differences_are_thinned.Goals as goal

pub returns : goal.returns
returns c = twin_differences_are_thinned
