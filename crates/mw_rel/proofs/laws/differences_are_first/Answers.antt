use Rattle.mw_rel.proofs.Found.{differences_are_first}
use Rattle.mw_rel.proofs.laws.differences_are_first.Goals as goal

pub returns : goal.returns
returns c = differences_are_first
