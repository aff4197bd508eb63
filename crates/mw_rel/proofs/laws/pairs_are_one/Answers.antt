use Rattle.mw_rel.proofs.Decided.{pairs_are_one}
use Rattle.mw_rel.proofs.laws.pairs_are_one.Goals as goal

pub returns : goal.returns
returns c = pairs_are_one
