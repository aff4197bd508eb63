use Rattle.std.proofs.Common.{refl}
use Rattle.mw_macro.specs.DescribedStep.{step_of}
use Rattle.mw_pal.specs.Console.{longer_run, run_of}
use Rattle.mw_pal.proofs.run_examples.prints_twice.Goals as goal

pub returns : goal.returns
unfolding step_of longer_run run_of
returns c = refl
