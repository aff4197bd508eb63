use Rattle.std.proofs.Common.{refl}
use Rattle.mw_cycle.proofs.OnLiterals.{cycle_on_literals}
use Rattle.mw_ready.proofs.OnLiterals.{waits_on_literals}
use Rattle.mw_revise.proofs.OnLiterals.{revisions_on_literals, words_on_literals}
use Rattle.mw_revise.proofs.word_examples.twin_words_are_worked.Goals as goal

pub returns-clause-first_bit : goal.returns-clause-first_bit
unfolding cycle_on_literals waits_on_literals revisions_on_literals words_on_literals
returns-clause-first_bit c = refl

pub returns-clause-second_cycle : goal.returns-clause-second_cycle
unfolding cycle_on_literals waits_on_literals revisions_on_literals words_on_literals
returns-clause-second_cycle c = refl

pub returns-clause-new_cycle : goal.returns-clause-new_cycle
unfolding cycle_on_literals waits_on_literals revisions_on_literals words_on_literals
returns-clause-new_cycle c = refl

pub returns-clause-agrees : goal.returns-clause-agrees
unfolding cycle_on_literals waits_on_literals revisions_on_literals words_on_literals
returns-clause-agrees c = refl

pub returns-clause-differs : goal.returns-clause-differs
unfolding cycle_on_literals waits_on_literals revisions_on_literals words_on_literals
returns-clause-differs c = refl

pub returns-clause-lines : goal.returns-clause-lines
unfolding cycle_on_literals waits_on_literals revisions_on_literals words_on_literals
returns-clause-lines c = refl

pub returns-clause-shared : goal.returns-clause-shared
unfolding cycle_on_literals waits_on_literals revisions_on_literals words_on_literals
returns-clause-shared c = refl

pub returns-clause-new_element : goal.returns-clause-new_element
unfolding cycle_on_literals waits_on_literals revisions_on_literals words_on_literals
returns-clause-new_element c = refl

pub returns-clause-new_noise : goal.returns-clause-new_noise
unfolding cycle_on_literals waits_on_literals revisions_on_literals words_on_literals
returns-clause-new_noise c = refl

pub returns-clause-later_line : goal.returns-clause-later_line
unfolding cycle_on_literals waits_on_literals revisions_on_literals words_on_literals
returns-clause-later_line c = refl
