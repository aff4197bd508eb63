use Rattle.std.proofs.Common.{[], ◌∷◌, refl, ◌∙◌}
use Rattle.mw_cycle.proofs.OnLiterals.{cycle_on_literals}
use Rattle.mw_rel.specs.Examples.{element_job, late_job, push_job, same_job, subtract_job}
use Rattle.mw_rel.proofs.OnLiterals.{start_on_literals}
use Rattle.mw_tests.proofs.WithoutWaits.{shows}
use Rattle.mw_tests.proofs.starts.worked_starts.Goals as goal

pub returns-clause-same : goal.returns-clause-same
unfolding cycle_on_literals start_on_literals
returns-clause-same c = shows same_job (7 ∷ 1 ∷ 15 ∷ []) ∙ refl

pub returns-clause-element : goal.returns-clause-element
unfolding cycle_on_literals start_on_literals
returns-clause-element c = shows element_job (7 ∷ 1 ∷ 15 ∷ []) ∙ refl

pub returns-clause-late : goal.returns-clause-late
unfolding cycle_on_literals start_on_literals
returns-clause-late c = shows late_job (7 ∷ 1 ∷ 15 ∷ []) ∙ refl

pub returns-clause-subtracted : goal.returns-clause-subtracted
unfolding cycle_on_literals start_on_literals
returns-clause-subtracted c = shows subtract_job (1 ∷ 0 ∷ []) ∙ refl

pub returns-clause-added : goal.returns-clause-added
unfolding cycle_on_literals start_on_literals
returns-clause-added c = shows subtract_job (1 ∷ 1 ∷ []) ∙ refl

pub returns-clause-pushed : goal.returns-clause-pushed
unfolding cycle_on_literals start_on_literals
returns-clause-pushed c = shows push_job (3 ∷ []) ∙ refl
