use Rattle.mw_ready.proofs.CaseLaws.{no_case_goes_on}
use Rattle.mw_ready.proofs.laws.no_case_goes_on.Goals as goal

pub returns : goal.returns
returns c = no_case_goes_on
