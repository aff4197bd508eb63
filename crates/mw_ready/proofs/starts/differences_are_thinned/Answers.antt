use Rattle.mw_ready.proofs.Differences.{differences_are_thinned}
use Rattle.mw_ready.proofs.starts.differences_are_thinned.Goals as goal

pub returns : goal.returns
returns c = differences_are_thinned
