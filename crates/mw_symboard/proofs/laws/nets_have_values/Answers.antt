use Rattle.mw_symboard.proofs.NetValues.{nets_have_values}
use Rattle.mw_symboard.proofs.laws.nets_have_values.Goals as goal

pub returns : goal.returns
returns c = nets_have_values
