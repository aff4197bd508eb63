use Rattle.mw_symboard.proofs.Environments.{cycles_are_there, cycles_stay, variables_have_values}
use Rattle.mw_symboard.proofs.laws.variables_are_there.Goals as goal

pub returns : goal.returns
returns c = record { values = variables_have_values; cycles = cycles_are_there; stay = cycles_stay }
