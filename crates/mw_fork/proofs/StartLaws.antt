-- The laws of the cases of the starts at a boundary, by which they are explored.
use Rattle.std.proofs.Common.{◌≢◌, ◌⊎◌, List, []}
use Rattle.mw_term.specs.declared.decided.Decided.{Decided}
use Rattle.mw_explore.specs.Cases.{Leads}
use Rattle.mw_rel.specs.Case.{IsBefore}
use Rattle.mw_rel.specs.Views.{job_of}
use Rattle.mw_rel.proofs.Cases.{one_case_is_first}
use Rattle.mw_ready.proofs.Cases.{case_with, case_without}
use Rattle.mw_fork.specs.Traces.{Traced}
use Rattle.mw_fork.specs.declared.starts.Starts.{Starts}
use Rattle.mw_fork.specs.StartCases.{HasGoneThrough, IsCaseAt}
use Rattle.mw_course.proofs.AnyStart.{some_case as case_at}
use Rattle.mw_course.proofs.Tracing.{case_met}
use Rattle.mw_path.specs.Paths.{path_in}

-- what was gone through is a case
pub gone_is_case : (s : Starts) (traced : Traced) (bits : List Decided) → HasGoneThrough s traced bits
    → IsCaseAt s bits
gone_is_case s traced bits has =
    let course = traced.course in
    case_with (job_of s.job.now) s.boundary bits
    (case_met (job_of s.job.now) s.boundary has.gone.course.elements course.cycles _ bits
    (path_in traced.paths) course.run
    course.step s.job.now.is_job has.gone.course.met)

-- there is a case
pub some_case : (s : Starts) → Leads (IsCaseAt s) []
some_case s =
    let one = case_at (job_of s.job.now) s.boundary s.job.now.is_job s.there in
    record { rest = one.0; case = one.1 }

-- of two cases one comes before the other
pub in_order : (s : Starts) (one two : List Decided) → IsCaseAt s one → IsCaseAt s two → one ≢ two
    → IsBefore one two ⊎ IsBefore two one
in_order s one two first second differ =
    one_case_is_first (job_of s.job.now) s.boundary one two s.job.now.is_job
    (case_without (job_of s.job.now) s.boundary one first) (case_without (job_of s.job.now) s.boundary two second) differ
