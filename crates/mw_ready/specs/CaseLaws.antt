-- Laws of the cases of a boundary, over all starts.
use Rattle.std.specs.Prelude.{◌≡◌, ◌≢◌, ◌⊎◌, ℕ, ◌<◌, ◌≤◌, List, [], ◌∷◌, ◌++◌, true, if◌then◌else◌, Some, None}
use Rattle.mw_term.specs.declared.decided.Decided.{Decided}
use Rattle.mw_rel.specs.Case.{IsBefore, IsCase, IsFeasiblePrefix, IsProperPrefix, IsStartAt, case_of, cycles_of}
use Rattle.mw_rel.specs.Case.{is_late}
use Rattle.mw_rel.specs.Certified.{board_run}
use Rattle.mw_rel.specs.Differs.{segment_of}
use Rattle.mw_rel.specs.Job.{Job, IsJob}
use Rattle.mw_rel.specs.Start.{Start}

-- earlier bits fix the kind of the next
abbrev pub KindsAreFixed : Type 0
KindsAreFixed = (job : Job) (number : ℕ) (bits : List Decided) (x y : Decided) → IsJob job
    → IsFeasiblePrefix job number (bits ++ x ∷ []) → IsFeasiblePrefix job number (bits ++ y ∷ []) → x.kind ≡ y.kind

-- no case is a proper prefix of another
abbrev pub NoCaseGoesOn : Type 0
NoCaseGoesOn = (job : Job) (number : ℕ) (first second : List Decided) → IsJob job
    → IsCase job number first → IsCase job number second → ¬ IsProperPrefix first second

-- of two different cases one comes before the other
abbrev pub OneCaseIsFirst : Type 0
OneCaseIsFirst = (job : Job) (number : ℕ) (first second : List Decided) → IsJob job
    → IsCase job number first → IsCase job number second → first ≢ second
    → IsBefore first second ⊎ IsBefore second first

-- starts with one case have as many cycles, and both are late or neither is
abbrev pub CasesHaveOneEnd : Type 0
CasesHaveOneEnd = (job : Job) (number : ℕ) (a b : Start) → IsJob job → IsStartAt job number a → IsStartAt job number b
    → case_of job a ≡ case_of job b → (cycles_of job a ≡ cycles_of job b) × (is_late job a ≡ is_late job b)

-- a segment that isn't late is the run of its cycles: one at least, at most the bound's number, which a late one has
pub record HasCycles (job : Job) (start : Start) : Type 0 where
  pub segment : segment_of job start
      ≡ (if is_late job start then None else Some (board_run job start (cycles_of job start)))
  pub some : 0 < cycles_of job start
  pub within : cycles_of job start ≤ start.boundary.bound
  pub late : is_late job start ≡ true → cycles_of job start ≡ start.boundary.bound

-- so has each start of a job
abbrev pub SegmentsHaveCycles : Type 0
SegmentsHaveCycles = (job : Job) (number : ℕ) (start : Start) → IsJob job → IsStartAt job number start
    → HasCycles job start
