use Rattle.mw_symboard.proofs.Runs.{bits_are_first, bits_are_of_the_run, turns_are_of_the_run}
use Rattle.mw_symboard.proofs.laws.turns_are_of_the_run.Goals as goal

pub returns : goal.returns
returns c = record { turns = turns_are_of_the_run; bits = bits_are_of_the_run; first = bits_are_first }
