use Rattle.mw_rel.proofs.Cases.{segments_end}
use Rattle.mw_rel.proofs.laws.segments_end.Goals as goal

pub returns : goal.returns
returns c = segments_end
