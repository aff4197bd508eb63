use Rattle.mw_symmem.proofs.Listed.{are_of_at_first}
use Rattle.mw_symmem.proofs.laws.are_of_at_first.Goals as goal

pub returns : goal.returns
returns c = are_of_at_first
