-- No start of a case differs where none without waits does.
use Rattle.std.proofs.Common.{◌≡◌, ℕ, List, sym, ◌∙◌}
use Rattle.std.specs.Prelude.{None}
use Rattle.mw_term.specs.declared.decided.Decided.{Decided}
use Rattle.mw_rel.specs.Job.{Job}
use Rattle.mw_rel.specs.SteadyCase.{IsStartAt, case_of}
use Rattle.mw_rel.specs.SteadyDiffers.{difference_of}
use Rattle.mw_rel.specs.SteadyStart.{Start}
use Rattle.mw_ready.specs.Thinned.{thinned_start}
use Rattle.mw_ready.proofs.Alike.{thinned_at}
use Rattle.mw_ready.proofs.Cases.{cases_are_thinned}
use Rattle.mw_ready.proofs.Differences.{differences_are_thinned}
use Rattle.mw_fork.specs.Failing.{NoneDiffersOf}

pub none_differs_with : (job : Job) (number : ℕ) (bits : List Decided)
    → ((start : Start) → IsStartAt job number start → case_of job start ≡ bits → difference_of job start ≡ None)
    → NoneDiffersOf job number bits
none_differs_with job number bits each start starts of_case =
    differences_are_thinned job start
    ∙ each (thinned_start job start) (thinned_at job number start starts)
    (sym (cases_are_thinned job start).bits ∙ of_case)
