use Rattle.mw_replay.proofs.Starts.{counters_give_starts}
use Rattle.mw_replay.proofs.laws.counters_give_starts.Goals as goal

pub returns : goal.returns
returns c = counters_give_starts
