use Rattle.mw_rel.proofs.Relations.{accepted_are_solved}
use Rattle.mw_rel.proofs.laws.accepted_are_solved.Goals as goal

pub returns : goal.returns
returns c = accepted_are_solved
