use Rattle.mw_replay.proofs.Trimmed.{nothing_is_cut}
use Rattle.mw_replay.proofs.laws.nothing_is_cut.Goals as goal

pub returns : goal.returns
returns c = nothing_is_cut
