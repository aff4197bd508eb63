use Rattle.mw_ready.proofs.CaseLaws.{cases_have_one_end}
use Rattle.mw_ready.proofs.laws.cases_have_one_end.Goals as goal

pub returns : goal.returns
returns c = cases_have_one_end
