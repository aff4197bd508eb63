use Rattle.mw_symboard.proofs.Runs.{runs_stay}
use Rattle.mw_symboard.proofs.laws.runs_stay.Goals as goal

pub returns : goal.returns
returns c = runs_stay
