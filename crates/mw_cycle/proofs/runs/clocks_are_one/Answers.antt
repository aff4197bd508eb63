use Rattle.mw_cycle.proofs.Further.{clocks_are_one}
use Rattle.mw_cycle.proofs.runs.clocks_are_one.Goals as goal

pub returns : goal.returns
returns c = clocks_are_one
