use Rattle.mw_macro.proofs.Steps.{events_are_few}
use Rattle.mw_macro.proofs.laws.events_are_few.Goals as goal

pub returns : goal.returns
returns c = events_are_few
