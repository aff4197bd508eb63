use Rattle.mw_rel.proofs.Parting.{before_is_an_order}
use Rattle.mw_rel.proofs.laws.before_is_an_order.Goals as goal

pub returns : goal.returns
returns c = before_is_an_order
