use Rattle.mw_rel.proofs.Cases.{cases_begin_with_cycles}
use Rattle.mw_rel.proofs.laws.cases_begin_with_cycles.Goals as goal

pub returns : goal.returns
returns c = cases_begin_with_cycles
