use Rattle.mw_term.proofs.Standing.{rows_stand}
use Rattle.mw_term.proofs.laws.rows_stand.Goals as goal

pub returns : goal.returns
returns c = rows_stand
