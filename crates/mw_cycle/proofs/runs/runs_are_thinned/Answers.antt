use Rattle.mw_cycle.proofs.Thinning.{runs_are_thinned}
use Rattle.mw_cycle.proofs.runs.runs_are_thinned.Goals as goal

pub returns : goal.returns
returns c = runs_are_thinned
