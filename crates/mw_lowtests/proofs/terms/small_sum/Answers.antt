use Rattle.std.proofs.Common.{refl}
use Rattle.mw_term.specs.Rows.{operations, row_bits, bit_made}
use Rattle.mw_term.specs.Table.{op_width}
use Rattle.mw_term.specs.Values.{op_value}
use Rattle.mw_lowtests.proofs.terms.small_sum.Goals as goal

pub returns-clause-value : goal.returns-clause-value
unfolding op_value op_width
returns-clause-value c = refl

pub returns-clause-width : goal.returns-clause-width
unfolding op_width
returns-clause-width c = refl

pub returns-clause-low : goal.returns-clause-low
unfolding op_value op_width operations row_bits bit_made
returns-clause-low c = refl

pub returns-clause-high : goal.returns-clause-high
unfolding op_value op_width operations row_bits bit_made
returns-clause-high c = refl

pub returns-clause-overflow : goal.returns-clause-overflow
unfolding op_value op_width operations row_bits bit_made
returns-clause-overflow c = refl
