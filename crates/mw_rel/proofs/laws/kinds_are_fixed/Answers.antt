use Rattle.mw_rel.proofs.Cases.{kinds_are_fixed}
use Rattle.mw_rel.proofs.laws.kinds_are_fixed.Goals as goal

pub returns : goal.returns
returns c = kinds_are_fixed
