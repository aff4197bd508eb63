use Rattle.mw_ready.proofs.Certifying.{certified_alike}
use Rattle.mw_ready.proofs.starts.certified_alike.Goals as goal

pub returns : goal.returns
returns c = certified_alike
