use Rattle.mw_rel.proofs.Cases.{cases_have_one_end}
use Rattle.mw_rel.proofs.laws.cases_have_one_end.Goals as goal

pub returns : goal.returns
returns c = cases_have_one_end
