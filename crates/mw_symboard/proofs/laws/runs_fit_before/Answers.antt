use Rattle.mw_symboard.proofs.Runs.{runs_fit_before}
use Rattle.mw_symboard.proofs.laws.runs_fit_before.Goals as goal

pub returns : goal.returns
returns c = runs_fit_before
