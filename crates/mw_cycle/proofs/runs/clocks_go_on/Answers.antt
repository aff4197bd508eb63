use Rattle.mw_cycle.proofs.Further.{clocks_go_on}
use Rattle.mw_cycle.proofs.runs.clocks_go_on.Goals as goal

pub returns : goal.returns
returns c = clocks_go_on
