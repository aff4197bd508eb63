use Rattle.mw_symmem.proofs.Stays.{is_memory_at_first}
use Rattle.mw_symmem.proofs.laws.is_memory_at_first.Goals as goal

pub returns : goal.returns
returns c = is_memory_at_first
