use Rattle.mw_symboard.proofs.Runs.{elements_have_terms}
use Rattle.mw_symboard.proofs.laws.elements_have_terms.Goals as goal

pub returns : goal.returns
returns c = elements_have_terms
