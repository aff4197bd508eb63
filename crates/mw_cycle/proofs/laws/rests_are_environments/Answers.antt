use Rattle.mw_cycle.proofs.Lists.{rests_are_environments}
use Rattle.mw_cycle.proofs.laws.rests_are_environments.Goals as goal

pub returns : goal.returns
returns c = rests_are_environments
