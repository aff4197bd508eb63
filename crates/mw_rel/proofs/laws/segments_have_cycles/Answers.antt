use Rattle.mw_rel.proofs.Cases.{segments_have_cycles}
use Rattle.mw_rel.proofs.laws.segments_have_cycles.Goals as goal

pub returns : goal.returns
returns c = segments_have_cycles
