use Rattle.std.proofs.Common.{refl}
use Rattle.mw_macro.specs.DescribedStep.{step_of}
use Rattle.mw_pal.specs.Console.{longer_run, run_of}
use Rattle.mw_pal.proofs.run_examples.reads_keys.Goals as goal

pub returns-clause-three : goal.returns-clause-three
unfolding step_of longer_run run_of
returns-clause-three c = refl

pub returns-clause-one : goal.returns-clause-one
unfolding step_of longer_run run_of
returns-clause-one c = refl
