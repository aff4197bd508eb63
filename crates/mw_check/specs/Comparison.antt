-- What steps from a start of a job show.
use Rattle.std.specs.Prelude.{◌≡◌, ℕ, ◌≤◌}
use Rattle.mw_rel.specs.Differs.{DiffersAt}
use Rattle.mw_rel.specs.Job.{Job}
use Rattle.mw_rel.specs.Start.{Start}
use Rattle.mw_replay.specs.Replay.{IsReached}
use Rattle.mw_check.specs.declared.comparison.Compared.{Compared}
use Rattle.mw_check.specs.declared.comparison.Compared.TheVariants.{Same, Differs}

-- so many steps from a start show this: no difference, or at one of them, counted from 1, the first
abbrev pub Shows : Job → Start → ℕ → Compared → Type 0
Shows job start steps Same = (here : Start) × IsReached job start steps here
Shows job start steps (Differs step difference) = (step ≤ steps) × DiffersAt job start step difference

-- what so many steps from a start show is one thing
abbrev pub StepsShowOneThing : Type 0
StepsShowOneThing = (job : Job) (start : Start) (steps : ℕ) (one other : Compared) → Shows job start steps one
    → Shows job start steps other → one ≡ other
