use Rattle.mw_cycle.proofs.Ranges.{low_bits_left}
use Rattle.mw_cycle.proofs.control.low_bits.Goals as goal

pub returns-clause-exact : goal.returns-clause-exact
returns-clause-exact c = low_bits_left c.args.number c.args.bits c.requires
