use Rattle.mw_cycle.proofs.Clocks.{clocks_are_bounded}
use Rattle.mw_cycle.proofs.runs.clocks_are_bounded.Goals as goal

pub returns : goal.returns
returns c = clocks_are_bounded
