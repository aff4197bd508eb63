use Rattle.mw_cases.proofs.Steps.{steps_do_operations}
use Rattle.mw_cases.proofs.laws.steps_do_operations.Goals as goal

pub returns : goal.returns
returns c = steps_do_operations
