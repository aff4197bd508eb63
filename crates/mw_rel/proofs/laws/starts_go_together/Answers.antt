use Rattle.mw_rel.proofs.Cases.{starts_go_together}
use Rattle.mw_rel.proofs.laws.starts_go_together.Goals as goal

pub returns : goal.returns
returns c = starts_go_together
