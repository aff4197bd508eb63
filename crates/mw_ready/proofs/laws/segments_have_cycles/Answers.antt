use Rattle.mw_ready.proofs.CaseLaws.{segments_have_cycles}
use Rattle.mw_ready.proofs.laws.segments_have_cycles.Goals as goal

pub returns : goal.returns
returns c = segments_have_cycles
