use Rattle.mw_cases.proofs.Counts.{all_640}
use Rattle.mw_cases.proofs.laws.operations_are_640.Goals as goal

pub returns : goal.returns
returns c = all_640
