use Rattle.mw_term.proofs.Rows.{rows_make_values}
use Rattle.mw_term.proofs.laws.rows_make_values.Goals as goal

pub returns : goal.returns
returns c = rows_make_values
