use Rattle.mw_cases.proofs.Counts.{few}
use Rattle.mw_cases.proofs.laws.operations_are_few.Goals as goal

pub returns : goal.returns
returns c = few
