use Rattle.mw_ready.proofs.CaseLaws.{one_case_is_first}
use Rattle.mw_ready.proofs.laws.one_case_is_first.Goals as goal

pub returns : goal.returns
returns c = one_case_is_first
