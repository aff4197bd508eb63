use Rattle.std.proofs.Common.{[], ◌∷◌, refl, ◌∙◌}
use Rattle.mw_cycle.proofs.OnLiterals.{cycle_on_literals}
use Rattle.mw_rel.specs.CaseExamples.{adding_job, asking_job, spinning_job}
use Rattle.mw_rel.proofs.OnLiterals.{case_on_literals, start_on_literals}
use Rattle.mw_tests.proofs.WithoutWaits.{ends, lasts}
use Rattle.mw_tests.proofs.cases.worked_ends.Goals as goal

pub returns-clause-added : goal.returns-clause-added
unfolding cycle_on_literals start_on_literals case_on_literals
returns-clause-added c = lasts adding_job (7 ∷ 1 ∷ []) ∙ refl

pub returns-clause-in_time : goal.returns-clause-in_time
unfolding cycle_on_literals start_on_literals case_on_literals
returns-clause-in_time c = ends adding_job (7 ∷ 1 ∷ []) ∙ refl

pub returns-clause-spun : goal.returns-clause-spun
unfolding cycle_on_literals start_on_literals case_on_literals
returns-clause-spun c = lasts spinning_job (7 ∷ 1 ∷ []) ∙ refl

pub returns-clause-late : goal.returns-clause-late
unfolding cycle_on_literals start_on_literals case_on_literals
returns-clause-late c = ends spinning_job (7 ∷ 1 ∷ []) ∙ refl

pub returns-clause-asked : goal.returns-clause-asked
unfolding cycle_on_literals start_on_literals case_on_literals
returns-clause-asked c = lasts asking_job (7 ∷ 1 ∷ []) ∙ refl
