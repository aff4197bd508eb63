use Rattle.mw_replay.proofs.StartBack.{starts_read_back}
use Rattle.mw_replay.proofs.laws.starts_read_back.Goals as goal

pub returns : goal.returns
returns c = starts_read_back
