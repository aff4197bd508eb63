use Rattle.std.proofs.Common.{refl}
use Rattle.mw_cycle.proofs.OnLiterals.{cycle_on_literals}
use Rattle.mw_ready.proofs.OnLiterals.{waits_on_literals}
use Rattle.mw_revise.proofs.OnLiterals.{revisions_on_literals}
use Rattle.mw_revise.proofs.examples.revisions_are_worked.Goals as goal

pub returns-clause-sums : goal.returns-clause-sums
unfolding cycle_on_literals waits_on_literals revisions_on_literals
returns-clause-sums c = refl

pub returns-clause-old_register : goal.returns-clause-old_register
unfolding cycle_on_literals waits_on_literals revisions_on_literals
returns-clause-old_register c = refl

pub returns-clause-new_register : goal.returns-clause-new_register
unfolding cycle_on_literals waits_on_literals revisions_on_literals
returns-clause-new_register c = refl

pub returns-clause-carry : goal.returns-clause-carry
unfolding cycle_on_literals waits_on_literals revisions_on_literals
returns-clause-carry c = refl

pub returns-clause-no_carry : goal.returns-clause-no_carry
unfolding cycle_on_literals waits_on_literals revisions_on_literals
returns-clause-no_carry c = refl

pub returns-clause-late_old : goal.returns-clause-late_old
unfolding cycle_on_literals waits_on_literals revisions_on_literals
returns-clause-late_old c = refl

pub returns-clause-late_new : goal.returns-clause-late_new
unfolding cycle_on_literals waits_on_literals revisions_on_literals
returns-clause-late_new c = refl

pub returns-clause-event : goal.returns-clause-event
unfolding cycle_on_literals waits_on_literals revisions_on_literals
returns-clause-event c = refl

pub returns-clause-boundary : goal.returns-clause-boundary
unfolding cycle_on_literals waits_on_literals revisions_on_literals
returns-clause-boundary c = refl

pub returns-clause-stack_pointer : goal.returns-clause-stack_pointer
unfolding cycle_on_literals waits_on_literals revisions_on_literals
returns-clause-stack_pointer c = refl

pub returns-clause-memory : goal.returns-clause-memory
unfolding cycle_on_literals waits_on_literals revisions_on_literals
returns-clause-memory c = refl

pub returns-clause-waits : goal.returns-clause-waits
unfolding cycle_on_literals waits_on_literals revisions_on_literals
returns-clause-waits c = refl

pub returns-clause-old_line : goal.returns-clause-old_line
unfolding cycle_on_literals waits_on_literals revisions_on_literals
returns-clause-old_line c = refl

pub returns-clause-new_line : goal.returns-clause-new_line
unfolding cycle_on_literals waits_on_literals revisions_on_literals
returns-clause-new_line c = refl
