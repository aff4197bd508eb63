use Rattle.mw_top.proofs.Followed.{differences_may_follow}
use Rattle.mw_top.proofs.laws.differences_may_follow.Goals as goal

pub returns : goal.returns
returns c = differences_may_follow
