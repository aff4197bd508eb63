use Rattle.mw_replay.proofs.Trimmed.{zeros_give_nothing}
use Rattle.mw_replay.proofs.laws.zeros_give_nothing.Goals as goal

pub returns : goal.returns
returns c = zeros_give_nothing
