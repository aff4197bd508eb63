use Rattle.mw_cycle.proofs.Further.{runs_go_on}
use Rattle.mw_cycle.proofs.runs.runs_go_on.Goals as goal

pub returns : goal.returns
returns c = runs_go_on
