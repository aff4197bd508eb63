use Rattle.mw_ready.proofs.Begins.{starts_without_waits_are_starts}
use Rattle.mw_ready.proofs.starts.starts_without_waits_are_starts.Goals as goal

pub returns : goal.returns
returns c = starts_without_waits_are_starts
