use Rattle.mw_replay.proofs.Steps.{steps_differ}
use Rattle.mw_replay.proofs.laws.steps_differ.Goals as goal

pub returns : goal.returns
returns c = steps_differ
