use Rattle.mw_ready.proofs.CaseLaws.{kinds_are_fixed}
use Rattle.mw_ready.proofs.laws.kinds_are_fixed.Goals as goal

pub returns : goal.returns
returns c = kinds_are_fixed
