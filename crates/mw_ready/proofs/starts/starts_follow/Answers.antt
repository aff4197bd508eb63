use Rattle.mw_ready.proofs.Steps.{starts_follow}
use Rattle.mw_ready.proofs.starts.starts_follow.Goals as goal

pub returns : goal.returns
returns c = starts_follow
