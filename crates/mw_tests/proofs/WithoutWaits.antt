-- Worked starts are computed without waits.
use Rattle.std.proofs.Common.{◌≡◌, ℕ, List, ap, ◌∙◌}
use Rattle.mw_rel.specs.Examples as steady
use Rattle.mw_rel.specs.Examples.{start_with}
use Rattle.mw_rel.specs.Job.{Job}
use Rattle.mw_rel.specs.SteadyCase as cases
use Rattle.mw_ready.specs.Thinned.{always_ready}
use Rattle.mw_ready.proofs.Alike.{same_case, same_difference}
use Rattle.mw_ready.proofs.Begins.{itself}
use Rattle.mw_ready.proofs.Cases.{cases_are_thinned}
use Rattle.mw_tests.specs.Starts.{case_with, cycles_with, is_late, shown}

pub shows : (job : Job) (registers : List ℕ) → shown job registers ≡ steady.shown job registers
shows job registers = same_difference job (start_with job registers)

pub decides : (job : Job) (registers : List ℕ)
    → case_with job registers ≡ cases.case_of job (start_with job registers)
decides job registers = same_case job (start_with job registers)

pub lasts : (job : Job) (registers : List ℕ)
    → cycles_with job registers ≡ cases.cycles_of job (start_with job registers)
lasts job registers =
    (cases_are_thinned job (always_ready (start_with job registers))).cycles
    ∙ ap (cases.cycles_of job) (itself job (start_with job registers))

pub ends : (job : Job) (registers : List ℕ) → is_late job registers ≡ cases.is_late job (start_with job registers)
ends job registers =
    (cases_are_thinned job (always_ready (start_with job registers))).late
    ∙ ap (cases.is_late job) (itself job (start_with job registers))
