use Rattle.mw_cycle.proofs.Lists.{lists_are_all}
use Rattle.mw_cycle.proofs.laws.lists_are_all.Goals as goal

pub returns : goal.returns
returns c = lists_are_all
