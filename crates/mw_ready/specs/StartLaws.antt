-- Laws of starts with waits, and of what is certified over all environments.
use Rattle.std.specs.Prelude.{◌≡◌, ◌↔◌, ℕ, List, None, Some}
use Rattle.mw_term.specs.declared.decided.Decided.{Decided}
use Rattle.mw_rel.specs.SteadyCase.{IsCase as IsSteadyCase, case_of as steady_case_of}
use Rattle.mw_rel.specs.SteadyCase.{cycles_of as steady_cycles_of, is_late as is_steady_late}
use Rattle.mw_rel.specs.SteadyCertified.{Certified as SteadyCertified}
use Rattle.mw_rel.specs.SteadyDiffers.{Differs as SteadyDiffers, DiffersAt as SteadyDiffersAt}
use Rattle.mw_rel.specs.SteadyDiffers.{difference_of as steady_difference_of}
use Rattle.mw_cycle.specs.Run.{BoardRun}
use Rattle.mw_rel.specs.Job.{Job, IsJob}
use Rattle.mw_rel.specs.Relation.{Boundary}
use Rattle.mw_rel.specs.SteadyStart.{Start as SteadyStart, IsStart as IsSteadyStart}
use Rattle.mw_rel.specs.declared.difference.Difference.{Difference}
use Rattle.mw_rel.specs.Case.{IsCase, is_late, case_of, cycles_of}
use Rattle.mw_rel.specs.Certified.{Certified, boundary_at}
use Rattle.mw_rel.specs.Differs.{Differs, DiffersAt, difference_of, segment_of, start_after}
use Rattle.mw_rel.specs.Start.{Start, IsStart}
use Rattle.mw_ready.specs.Thinned.{thinned_start, always_ready}

-- without its waits a start of a job is one without waits
abbrev pub ThinnedAreStarts : Type 0
ThinnedAreStarts = (job : Job) (start : Start) → IsStart job start → IsSteadyStart job (thinned_start job start)

-- a start without waits is a start, and what it is without its waits
pub record IsStartItself (job : Job) (start : SteadyStart) : Type 0 where
  pub begins : IsStart job (always_ready start)
  pub itself : thinned_start job (always_ready start) ≡ start

-- so is each of a job
abbrev pub StartsWithoutWaitsAreStarts : Type 0
StartsWithoutWaitsAreStarts = (job : Job) (start : SteadyStart) → IsSteadyStart job start → IsStartItself job start

-- a start shows the difference, if any, that it shows without its waits
abbrev pub DifferencesAreThinned : Type 0
DifferencesAreThinned = (job : Job) (start : Start)
    → difference_of job start ≡ steady_difference_of job (thinned_start job start)

-- a start differs exactly where it does without its waits, by the same difference
abbrev pub StartsDifferAsThinned : Type 0
StartsDifferAsThinned = (job : Job) (start : Start) (difference : Difference) → IsStart job start
    → Differs job start difference ↔ SteadyDiffers job (thinned_start job start) difference

-- a start differs at a step exactly where it does without its waits, by the same difference
abbrev pub StepsDifferAsThinned : Type 0
StepsDifferAsThinned = (job : Job) (start : Start) (step : ℕ) (difference : Difference) → IsStart job start
    → DiffersAt job start step difference ↔ SteadyDiffersAt job (thinned_start job start) step difference

-- a start has as many cycles, is late, and decides what it decides, as without its waits
pub record HasCaseOfThinned (job : Job) (start : Start) : Type 0 where
  pub cycles : cycles_of job start ≡ steady_cycles_of job (thinned_start job start)
  pub late : is_late job start ≡ is_steady_late job (thinned_start job start)
  pub bits : case_of job start ≡ steady_case_of job (thinned_start job start)

-- so is each
abbrev pub CasesAreThinned : Type 0
CasesAreThinned = (job : Job) (start : Start) → HasCaseOfThinned job start

-- the cases of a boundary over all environments are those over the ones without waits
abbrev pub CasesAreAlike : Type 0
CasesAreAlike = (job : Job) (number : ℕ) (bits : List Decided) → IsCase job number bits ↔ IsSteadyCase job number bits

-- where a start shows no difference, the start of the next segment is one of the job
abbrev pub StartsFollow : Type 0
StartsFollow = (job : Job) (start : Start) (run : BoardRun) (reached : Boundary) → IsJob job → IsStart job start
    → difference_of job start ≡ None → segment_of job start ≡ Some run → boundary_at job run.state.at ≡ Some reached
    → IsStart job (start_after job start run reached)

-- no start differs
abbrev pub NoneDiffers : Job → Type 0
NoneDiffers job = (start : Start) (difference : Difference) → ¬ Differs job start difference

-- a job is certified over all environments exactly where none of its starts differs
abbrev pub CertifiedWhereNoneDiffers : Type 0
CertifiedWhereNoneDiffers = (job : Job) → IsJob job → Certified job ↔ NoneDiffers job

-- a job is certified over all environments exactly where it is over those without waits
abbrev pub CertifiedAlike : Type 0
CertifiedAlike = (job : Job) → Certified job ↔ SteadyCertified job
