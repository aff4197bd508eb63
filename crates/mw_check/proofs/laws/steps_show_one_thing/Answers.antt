use Rattle.mw_check.proofs.Shown.{shows_one}
use Rattle.mw_check.proofs.laws.steps_show_one_thing.Goals as goal

pub returns : goal.returns
returns c = shows_one
