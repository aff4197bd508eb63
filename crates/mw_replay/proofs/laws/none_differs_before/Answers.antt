use Rattle.mw_replay.proofs.Steps.{none_differs_before}
use Rattle.mw_replay.proofs.laws.none_differs_before.Goals as goal

pub returns : goal.returns
returns c = none_differs_before
