-- Worked starts, as starts that might wait: what they show, and what they decide.
use Rattle.std.specs.Prelude.{ℕ, List, Bool, Option}
use Rattle.mw_term.specs.declared.decided.Decided.{Decided}
use Rattle.mw_rel.specs.Case as cases
use Rattle.mw_rel.specs.Differs.{difference_of}
use Rattle.mw_rel.specs.Examples.{start_with}
use Rattle.mw_rel.specs.Job.{Job}
use Rattle.mw_rel.specs.declared.difference.Difference.{Difference}
use Rattle.mw_ready.specs.Thinned.{always_ready}

-- what the start with these registers shows
abbrev pub shown : Job → List ℕ → Option Difference
shown job registers = difference_of job (always_ready (start_with job registers))

-- its case
abbrev pub case_with : Job → List ℕ → List Decided
case_with job registers = cases.case_of job (always_ready (start_with job registers))

-- how many cycles its segment has
abbrev pub cycles_with : Job → List ℕ → ℕ
cycles_with job registers = cases.cycles_of job (always_ready (start_with job registers))

-- whether it is late
abbrev pub is_late : Job → List ℕ → Bool
is_late job registers = cases.is_late job (always_ready (start_with job registers))
