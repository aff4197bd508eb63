use Rattle.mw_ready.proofs.DifferenceLaws.{same_shows_nothing}
use Rattle.mw_ready.proofs.laws.same_shows_nothing.Goals as goal

pub returns : goal.returns
returns c = same_shows_nothing
