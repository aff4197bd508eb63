use Rattle.std.proofs.Common.{refl}
use Rattle.mw_cycle.proofs.OnLiterals.{cycle_on_literals}
use Rattle.mw_ready.proofs.OnLiterals.{waits_on_literals}
use Rattle.mw_revise.proofs.OnLiterals.{revisions_on_literals, words_on_literals}
use Rattle.mw_revise.proofs.word_examples.differing_twins_are_worked.Goals as goal

pub returns-clause-late_old : goal.returns-clause-late_old
unfolding cycle_on_literals waits_on_literals revisions_on_literals words_on_literals
returns-clause-late_old c = refl

pub returns-clause-late_new : goal.returns-clause-late_new
unfolding cycle_on_literals waits_on_literals revisions_on_literals words_on_literals
returns-clause-late_new c = refl

pub returns-clause-boundary : goal.returns-clause-boundary
unfolding cycle_on_literals waits_on_literals revisions_on_literals words_on_literals
returns-clause-boundary c = refl

pub returns-clause-event : goal.returns-clause-event
unfolding cycle_on_literals waits_on_literals revisions_on_literals words_on_literals
returns-clause-event c = refl

pub returns-clause-stack_pointer : goal.returns-clause-stack_pointer
unfolding cycle_on_literals waits_on_literals revisions_on_literals words_on_literals
returns-clause-stack_pointer c = refl
