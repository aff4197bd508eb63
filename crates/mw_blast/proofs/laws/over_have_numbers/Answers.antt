use Rattle.mw_blast.proofs.Numbers.{over_have_numbers, operands_are_known}
use Rattle.mw_blast.proofs.laws.over_have_numbers.Goals as goal

pub returns : goal.returns
returns c = record { over = over_have_numbers; operands = operands_are_known }
