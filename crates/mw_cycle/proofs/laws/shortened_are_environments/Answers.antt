use Rattle.mw_cycle.proofs.Lists.{shortened_are_environments}
use Rattle.mw_cycle.proofs.laws.shortened_are_environments.Goals as goal

pub returns : goal.returns
returns c = shortened_are_environments
