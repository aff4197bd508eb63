use Rattle.std.proofs.Common.{[], ◌∷◌, refl, ◌∙◌}
use Rattle.mw_cycle.proofs.OnLiterals.{cycle_on_literals}
use Rattle.mw_rel.specs.CaseExamples.{adding_job, asking_job, counting_job, spinning_job, testing_job}
use Rattle.mw_rel.proofs.OnLiterals.{case_on_literals, start_on_literals}
use Rattle.mw_tests.proofs.WithoutWaits.{decides}
use Rattle.mw_tests.proofs.cases.worked_cases.Goals as goal

pub returns-clause-added : goal.returns-clause-added
unfolding cycle_on_literals start_on_literals case_on_literals
returns-clause-added c = decides adding_job (7 ∷ 1 ∷ []) ∙ refl

pub returns-clause-spun : goal.returns-clause-spun
unfolding cycle_on_literals start_on_literals case_on_literals
returns-clause-spun c = decides spinning_job (7 ∷ 1 ∷ []) ∙ refl

pub returns-clause-tested : goal.returns-clause-tested
unfolding cycle_on_literals start_on_literals case_on_literals
returns-clause-tested c = decides testing_job (7 ∷ 1 ∷ []) ∙ refl

pub returns-clause-counted : goal.returns-clause-counted
unfolding cycle_on_literals start_on_literals case_on_literals
returns-clause-counted c = decides counting_job (7 ∷ 1 ∷ []) ∙ refl

pub returns-clause-asked : goal.returns-clause-asked
unfolding cycle_on_literals start_on_literals case_on_literals
returns-clause-asked c = decides asking_job (6 ∷ 1 ∷ []) ∙ refl

pub returns-clause-asked_again : goal.returns-clause-asked_again
unfolding cycle_on_literals start_on_literals case_on_literals
returns-clause-asked_again c = decides asking_job (7 ∷ 1 ∷ []) ∙ refl
