use Rattle.mw_rel.proofs.Same.{same_shows_nothing}
use Rattle.mw_rel.proofs.laws.same_shows_nothing.Goals as goal

pub returns : goal.returns
returns c = same_shows_nothing
