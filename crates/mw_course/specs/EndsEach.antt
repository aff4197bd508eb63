-- How long the segments of the starts with a case are.
use Rattle.std.specs.Prelude.{◌≡◌, ℕ, List, Bool}
use Rattle.mw_term.specs.declared.decided.Decided.{Decided}
use Rattle.mw_rel.specs.Case.{IsStartAt, case_of, cycles_of, is_late}
use Rattle.mw_rel.specs.Job.{Job}
use Rattle.mw_rel.specs.Start.{Start}

-- each start with this case, with waits or without, has a segment of so many cycles, which is late or isn't
abbrev pub EndsEach : Job → (number : ℕ) → (bits : List Decided) → (cycles : ℕ) → (late : Bool) → Type 0
EndsEach job number bits cycles late = (start : Start) → IsStartAt job number start → case_of job start ≡ bits
    → (cycles_of job start ≡ cycles) × (is_late job start ≡ late)
