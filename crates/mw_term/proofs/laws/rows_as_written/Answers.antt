use Rattle.mw_term.proofs.Examples.{rows_as_written}
use Rattle.mw_term.proofs.laws.rows_as_written.Goals as goal

pub returns : goal.returns
returns c = rows_as_written
