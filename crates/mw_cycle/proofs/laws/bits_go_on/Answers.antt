use Rattle.mw_cycle.proofs.SteadyCycles.{bits_further}
use Rattle.mw_cycle.proofs.laws.bits_go_on.Goals as goal

pub returns : goal.returns
returns c = bits_further
