use Rattle.mw_ready.proofs.Differences.{starts_differ_as_thinned}
use Rattle.mw_ready.proofs.starts.starts_differ_as_thinned.Goals as goal

pub returns : goal.returns
returns c = starts_differ_as_thinned
