use Rattle.mw_pal.proofs.Memories.{cleared}
use Rattle.mw_pal.proofs.source.read_pal.Goals as goal

pub second_pass-requires : goal.second_pass-requires
second_pass-requires c = rw c.in_ok-memory.ensures cleared
