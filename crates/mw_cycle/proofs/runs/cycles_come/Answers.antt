use Rattle.mw_cycle.proofs.Clocks.{cycles_come}
use Rattle.mw_cycle.proofs.runs.cycles_come.Goals as goal

pub returns : goal.returns
returns c = cycles_come
