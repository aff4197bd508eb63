use Rattle.mw_symboard.proofs.Runs.{runs_begin}
use Rattle.mw_symboard.proofs.laws.runs_begin.Goals as goal

pub returns : goal.returns
returns c = runs_begin
