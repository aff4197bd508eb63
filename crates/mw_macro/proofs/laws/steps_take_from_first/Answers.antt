use Rattle.mw_macro.proofs.Steps.{steps_take_from_first}
use Rattle.mw_macro.proofs.laws.steps_take_from_first.Goals as goal

pub returns : goal.returns
returns c = steps_take_from_first
