use Rattle.mw_revise.proofs.TwinsMeet.{one_twin_case_is_first}
use Rattle.mw_revise.proofs.laws.one_twin_case_is_first.Goals as goal

pub returns : goal.returns
returns c = one_twin_case_is_first
