use Rattle.mw_twin.proofs.TwinStartsThere.{twin_starts_are_there}
use Rattle.mw_twin.proofs.laws.twin_starts_are_there.Goals as goal

pub returns : goal.returns
returns c = twin_starts_are_there
