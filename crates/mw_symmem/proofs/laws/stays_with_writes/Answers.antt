use Rattle.mw_symmem.proofs.Stays.{stays_with_writes}
use Rattle.mw_symmem.proofs.laws.stays_with_writes.Goals as goal

pub returns : goal.returns
returns c = stays_with_writes
