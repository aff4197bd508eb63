use Rattle.mw_macro.proofs.Steps.{taken_are_events}
use Rattle.mw_macro.proofs.laws.taken_are_events.Goals as goal

pub returns : goal.returns
returns c = taken_are_events
