use Rattle.mw_cycle.proofs.NeverWaiting.{nothing_is_thinned}
use Rattle.mw_cycle.proofs.runs.nothing_is_thinned.Goals as goal

pub returns : goal.returns
returns c = nothing_is_thinned
