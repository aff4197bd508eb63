use Rattle.mw_ready.proofs.Begins.{thinned_are_starts}
use Rattle.mw_ready.proofs.starts.thinned_are_starts.Goals as goal

pub returns : goal.returns
returns c = thinned_are_starts
