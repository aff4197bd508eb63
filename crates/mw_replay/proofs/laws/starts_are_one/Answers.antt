use Rattle.mw_replay.proofs.Starts.{starts_are_one}
use Rattle.mw_replay.proofs.laws.starts_are_one.Goals as goal

pub returns : goal.returns
returns c = starts_are_one
