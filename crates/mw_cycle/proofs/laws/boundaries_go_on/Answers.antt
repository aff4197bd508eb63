use Rattle.mw_cycle.proofs.SteadySuffix.{boundary_further}
use Rattle.mw_cycle.proofs.laws.boundaries_go_on.Goals as goal

pub returns : goal.returns
returns c = boundary_further
