use Rattle.mw_term.proofs.Standing.{stands_with_more, stands_in_more}
use Rattle.mw_term.proofs.laws.stands_with_more.Goals as goal

pub returns-clause-written : goal.returns-clause-written
returns-clause-written c = stands_with_more

pub returns-clause-table : goal.returns-clause-table
returns-clause-table c = stands_in_more
