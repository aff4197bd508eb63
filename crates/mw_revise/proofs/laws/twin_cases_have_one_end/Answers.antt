use Rattle.mw_revise.proofs.TwinsMeet.{twin_cases_have_one_end}
use Rattle.mw_revise.proofs.laws.twin_cases_have_one_end.Goals as goal

pub returns : goal.returns
returns c = twin_cases_have_one_end
