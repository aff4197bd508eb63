use Rattle.std.proofs.Common.{refl}
use Rattle.mw_cycle.proofs.OnLiterals.{cycle_on_literals}
use Rattle.mw_ready.proofs.OnLiterals.{waits_on_literals}
use Rattle.mw_ready.proofs.examples.waits_are_worked.Goals as goal

pub returns-clause-one_cycle : goal.returns-clause-one_cycle
unfolding cycle_on_literals waits_on_literals
returns-clause-one_cycle c = refl

pub returns-clause-two_cycles : goal.returns-clause-two_cycles
unfolding cycle_on_literals waits_on_literals
returns-clause-two_cycles c = refl

pub returns-clause-lines : goal.returns-clause-lines
unfolding cycle_on_literals waits_on_literals
returns-clause-lines c = refl

pub returns-clause-left : goal.returns-clause-left
unfolding cycle_on_literals waits_on_literals
returns-clause-left c = refl

pub returns-clause-without_memory : goal.returns-clause-without_memory
unfolding cycle_on_literals waits_on_literals
returns-clause-without_memory c = refl

pub returns-clause-all_left : goal.returns-clause-all_left
unfolding cycle_on_literals waits_on_literals
returns-clause-all_left c = refl

pub returns-clause-masked : goal.returns-clause-masked
unfolding cycle_on_literals waits_on_literals
returns-clause-masked c = refl

pub returns-clause-written : goal.returns-clause-written
unfolding cycle_on_literals waits_on_literals
returns-clause-written c = refl

pub returns-clause-mixed : goal.returns-clause-mixed
unfolding cycle_on_literals waits_on_literals
returns-clause-mixed c = refl

pub returns-clause-mixed_left : goal.returns-clause-mixed_left
unfolding cycle_on_literals waits_on_literals
returns-clause-mixed_left c = refl

pub returns-clause-taking : goal.returns-clause-taking
unfolding cycle_on_literals waits_on_literals
returns-clause-taking c = refl
