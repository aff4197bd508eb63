use Rattle.mw_cycle.proofs.Rests.{rests_are_thinned}
use Rattle.mw_cycle.proofs.runs.rests_are_thinned.Goals as goal

pub returns : goal.returns
returns c = rests_are_thinned
