use Rattle.mw_pal.proofs.Readings.{inputs_make_the_run}
use Rattle.mw_pal.proofs.laws.inputs_make_the_run.Goals as goal

pub returns : goal.returns
returns c = inputs_make_the_run
