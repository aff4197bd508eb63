use Rattle.std.proofs.Common.{refl}
use Rattle.mw_cycle.proofs.OnLiterals.{cycle_on_literals}
use Rattle.mw_ready.proofs.OnLiterals.{waits_on_literals}
use Rattle.mw_revise.proofs.OnLiterals.{revisions_on_literals}
use Rattle.mw_revise.proofs.examples.differences_come_in_order.Goals as goal

pub returns-clause-both_late : goal.returns-clause-both_late
unfolding cycle_on_literals waits_on_literals revisions_on_literals
returns-clause-both_late c = refl

pub returns-clause-event_first : goal.returns-clause-event_first
unfolding cycle_on_literals waits_on_literals revisions_on_literals
returns-clause-event_first c = refl

pub returns-clause-boundary_first : goal.returns-clause-boundary_first
unfolding cycle_on_literals waits_on_literals revisions_on_literals
returns-clause-boundary_first c = refl

pub returns-clause-pointer_first : goal.returns-clause-pointer_first
unfolding cycle_on_literals waits_on_literals revisions_on_literals
returns-clause-pointer_first c = refl

pub returns-clause-line_first : goal.returns-clause-line_first
unfolding cycle_on_literals waits_on_literals revisions_on_literals
returns-clause-line_first c = refl

pub returns-clause-first_line : goal.returns-clause-first_line
unfolding cycle_on_literals waits_on_literals revisions_on_literals
returns-clause-first_line c = refl
