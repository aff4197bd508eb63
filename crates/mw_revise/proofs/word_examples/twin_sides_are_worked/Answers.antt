use Rattle.std.proofs.Common.{refl}
use Rattle.mw_cycle.proofs.OnLiterals.{cycle_on_literals}
use Rattle.mw_ready.proofs.OnLiterals.{waits_on_literals}
use Rattle.mw_revise.proofs.OnLiterals.{revisions_on_literals, words_on_literals}
use Rattle.mw_revise.proofs.word_examples.twin_sides_are_worked.Goals as goal

pub returns-clause-writes : goal.returns-clause-writes
unfolding cycle_on_literals waits_on_literals revisions_on_literals words_on_literals
returns-clause-writes c = refl

pub returns-clause-inputs : goal.returns-clause-inputs
unfolding cycle_on_literals waits_on_literals revisions_on_literals words_on_literals
returns-clause-inputs c = refl

pub returns-clause-outputs : goal.returns-clause-outputs
unfolding cycle_on_literals waits_on_literals revisions_on_literals words_on_literals
returns-clause-outputs c = refl
