use Rattle.mw_rel.proofs.Law.{starts_follow}
use Rattle.mw_rel.proofs.laws.starts_follow.Goals as goal

pub returns : goal.returns
returns c = starts_follow
