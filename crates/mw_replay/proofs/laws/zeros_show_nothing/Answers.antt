use Rattle.mw_replay.proofs.Zeros.{zeros_show_nothing}
use Rattle.mw_replay.proofs.laws.zeros_show_nothing.Goals as goal

pub returns : goal.returns
returns c = zeros_show_nothing
