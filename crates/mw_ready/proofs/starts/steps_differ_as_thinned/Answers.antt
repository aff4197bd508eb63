use Rattle.mw_ready.proofs.Steps.{steps_differ_as_thinned}
use Rattle.mw_ready.proofs.starts.steps_differ_as_thinned.Goals as goal

pub returns : goal.returns
returns c = steps_differ_as_thinned
