use Rattle.mw_term.proofs.Tables.{terms_have_ops}
use Rattle.mw_term.proofs.laws.terms_have_ops.Goals as goal

pub returns : goal.returns
returns c = terms_have_ops
