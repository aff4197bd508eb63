use Rattle.mw_symmach.proofs.InStep.{terms_are_there}
use Rattle.mw_symmach.proofs.laws.terms_are_there.Goals as goal

pub returns : goal.returns
returns c = terms_are_there
