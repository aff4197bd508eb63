use Rattle.mw_top.proofs.Alike.{parts_change_nothing}
use Rattle.mw_top.proofs.laws.parts_change_nothing.Goals as goal

pub returns : goal.returns
returns c = parts_change_nothing
