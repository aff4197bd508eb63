use Rattle.std.proofs.Common.{refl}
use Rattle.mw_cycle.proofs.OnLiterals.{cycle_on_literals}
use Rattle.mw_ready.proofs.OnLiterals.{waits_on_literals}
use Rattle.mw_revise.proofs.OnLiterals.{twin_cases_on_literals}
use Rattle.mw_revise.proofs.examples.twin_cases_are_worked.Goals as goal

pub returns-clause-both : goal.returns-clause-both
unfolding cycle_on_literals waits_on_literals twin_cases_on_literals
returns-clause-both c = refl

pub returns-clause-late_old : goal.returns-clause-late_old
unfolding cycle_on_literals waits_on_literals twin_cases_on_literals
returns-clause-late_old c = refl

pub returns-clause-late_new : goal.returns-clause-late_new
unfolding cycle_on_literals waits_on_literals twin_cases_on_literals
returns-clause-late_new c = refl

pub returns-clause-waits : goal.returns-clause-waits
unfolding cycle_on_literals waits_on_literals twin_cases_on_literals
returns-clause-waits c = refl
