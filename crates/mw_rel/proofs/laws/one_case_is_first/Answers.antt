use Rattle.mw_rel.proofs.Cases.{one_case_is_first}
use Rattle.mw_rel.proofs.laws.one_case_is_first.Goals as goal

pub returns : goal.returns
returns c = one_case_is_first
