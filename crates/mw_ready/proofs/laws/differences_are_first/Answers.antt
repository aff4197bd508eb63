use Rattle.mw_ready.proofs.DifferenceLaws.{differences_are_first}
use Rattle.mw_ready.proofs.laws.differences_are_first.Goals as goal

pub returns : goal.returns
returns c = differences_are_first
