use Rattle.mw_revise.proofs.WithoutWaits.{thinned_are_twin_starts}
use Rattle.mw_revise.proofs.laws.thinned_are_twin_starts.Goals as goal

pub returns : goal.returns
returns c = thinned_are_twin_starts
