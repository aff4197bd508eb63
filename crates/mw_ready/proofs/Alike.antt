-- What is known of starts without waits, of all starts.
use Rattle.std.proofs.Common.{◌≡◌, ℕ, List, ap, sym, ◌∙◌}
use Rattle.mw_term.specs.declared.decided.Decided.{Decided}
use Rattle.mw_rel.specs.Case.{IsFeasiblePrefix, IsStartAt, case_of}
use Rattle.mw_rel.specs.Differs.{difference_of}
use Rattle.mw_rel.specs.Job.{Job}
use Rattle.mw_rel.specs.Start.{Start}
use Rattle.mw_rel.specs.SteadyCase.{IsFeasiblePrefix as IsSteadyPrefix, IsStartAt as IsSteadyStartAt}
use Rattle.mw_rel.specs.SteadyCase.{case_of as steady_case_of}
use Rattle.mw_rel.specs.SteadyDiffers.{difference_of as steady_difference_of}
use Rattle.mw_rel.specs.SteadyStart.{Start as SteadyStart}
use Rattle.mw_ready.specs.Thinned.{always_ready, thinned_start}
use Rattle.mw_ready.proofs.Begins.{itself, starts_without_waits_are_starts, thinned_are_starts}
use Rattle.mw_ready.proofs.Cases.{cases_are_thinned}
use Rattle.mw_ready.proofs.Differences.{differences_are_thinned}

-- a start of a boundary is one without its waits
pub thinned_at : (job : Job) (number : ℕ) (start : Start) → IsStartAt job number start
    → IsSteadyStartAt job number (thinned_start job start)
thinned_at job number start at =
    record { begins = thinned_are_starts job start at.begins; there = at.there }

-- and a start without waits is one of the boundary
pub always_at : (job : Job) (number : ℕ) (start : SteadyStart) → IsSteadyStartAt job number start
    → IsStartAt job number (always_ready start)
always_at job number start at =
    record { begins = (starts_without_waits_are_starts job start at.begins).begins; there = at.there }

-- as a start, one without waits has its case
pub same_case : (job : Job) (start : SteadyStart) → case_of job (always_ready start) ≡ steady_case_of job start
same_case job start =
    (cases_are_thinned job (always_ready start)).bits ∙ ap (steady_case_of job) (itself job start)

-- and the difference, if any, that it shows
pub same_difference : (job : Job) (start : SteadyStart)
    → difference_of job (always_ready start) ≡ steady_difference_of job start
same_difference job start =
    differences_are_thinned job (always_ready start) ∙ ap (steady_difference_of job) (itself job start)

-- feasible prefixes are those of starts without waits
pub prefix_with : (job : Job) (number : ℕ) (bits : List Decided) → IsSteadyPrefix job number bits
    → IsFeasiblePrefix job number bits
prefix_with job number bits is = record {
  start = always_ready is.start;
  starts = always_at job number is.start is.starts;
  rest = is.rest;
  bits_are = same_case job is.start ∙ is.bits_are;
}

pub prefix_without : (job : Job) (number : ℕ) (bits : List Decided) → IsFeasiblePrefix job number bits
    → IsSteadyPrefix job number bits
prefix_without job number bits is = record {
  start = thinned_start job is.start;
  starts = thinned_at job number is.start is.starts;
  rest = is.rest;
  bits_are = sym (cases_are_thinned job is.start).bits ∙ is.bits_are;
}
