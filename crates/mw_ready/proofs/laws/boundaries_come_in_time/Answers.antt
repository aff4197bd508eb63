use Rattle.mw_ready.proofs.DifferenceLaws.{boundaries_come_in_time}
use Rattle.mw_ready.proofs.laws.boundaries_come_in_time.Goals as goal

pub returns : goal.returns
returns c = boundaries_come_in_time
