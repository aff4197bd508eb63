use Rattle.mw_revise.proofs.WithoutWaits.{agree_without_waits}
use Rattle.mw_revise.proofs.laws.agree_without_waits.Goals as goal

pub returns : goal.returns
returns c = agree_without_waits
