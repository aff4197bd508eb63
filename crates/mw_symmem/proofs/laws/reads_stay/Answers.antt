use Rattle.mw_symmem.proofs.Later.{reads_stay}
use Rattle.mw_symmem.proofs.laws.reads_stay.Goals as goal

pub returns : goal.returns
returns c = reads_stay
