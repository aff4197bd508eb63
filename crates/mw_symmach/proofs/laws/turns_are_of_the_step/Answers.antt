use Rattle.mw_symmach.proofs.InStep.{turns_are_of_the_step, bits_are_of_the_step}
use Rattle.mw_symmach.proofs.laws.turns_are_of_the_step.Goals as goal

pub returns : goal.returns
returns c = record { turns = turns_are_of_the_step; bits = bits_are_of_the_step }
