use Rattle.mw_ready.proofs.Cases.{cases_are_thinned}
use Rattle.mw_ready.proofs.starts.cases_are_thinned.Goals as goal

pub returns : goal.returns
returns c = cases_are_thinned
