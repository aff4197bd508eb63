use Rattle.mw_revise.proofs.Same.{same_show_nothing}
use Rattle.mw_revise.proofs.laws.same_show_nothing.Goals as goal

pub returns : goal.returns
returns c = same_show_nothing
