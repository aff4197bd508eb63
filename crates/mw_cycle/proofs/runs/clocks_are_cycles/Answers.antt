use Rattle.mw_cycle.proofs.NeverWaiting.{clocks_are_cycles}
use Rattle.mw_cycle.proofs.runs.clocks_are_cycles.Goals as goal

pub returns : goal.returns
returns c = clocks_are_cycles
