-- Laws of the cases of a boundary, over the starts whose runs never wait.
use Rattle.std.specs.Prelude.{◌≡◌, ◌≢◌, ◌⊎◌, ℕ, ◌+◌, ◌<◌, ◌≤◌, List, [], ◌∷◌, ◌++◌, true, false, if◌then◌else◌, Some}
use Rattle.std.specs.Prelude.{None}
use Rattle.mw_term.specs.declared.decided.Decided.{Decided}
use Rattle.mw_cycle.specs.Boundary.{is_named}
use Rattle.mw_rel.specs.SteadyCase.{bits_of_cycles, cycles_of, is_late, bits_of_step, case_of, IsStartAt, IsCase}
use Rattle.mw_rel.specs.Case.{IsBefore, IsProperPrefix}
use Rattle.mw_rel.specs.SteadyCase.{IsFeasiblePrefix}
use Rattle.mw_rel.specs.SteadyCertified.{board_run, at_cycle}
use Rattle.mw_rel.specs.SteadyDiffers.{segment_of}
use Rattle.mw_rel.specs.Job.{Job, IsJob}
use Rattle.mw_rel.specs.Start.{addresses_of}
use Rattle.mw_rel.specs.SteadyStart.{Start}

-- after n cycles two starts are at one control address, with one stack pointer
pub record AreTogether (job : Job) (a b : Start) (n : ℕ) : Type 0 where
  pub at : (board_run job a n).state.at ≡ (board_run job b n).state.at
  pub sp : (board_run job a n).state.seq.sp ≡ (board_run job b n).state.seq.sp

-- Earlier bits fix the kind of the next.
abbrev pub KindsAreFixed : Type 0
KindsAreFixed = (job : Job) (number : ℕ) (bits : List Decided) (x y : Decided) → IsJob job
    → IsFeasiblePrefix job number (bits ++ x ∷ []) → IsFeasiblePrefix job number (bits ++ y ∷ []) → x.kind ≡ y.kind

-- No case is a proper prefix of another.
abbrev pub NoCaseGoesOn : Type 0
NoCaseGoesOn = (job : Job) (number : ℕ) (first second : List Decided) → IsJob job
    → IsCase job number first → IsCase job number second → ¬ IsProperPrefix first second

-- Of two different cases one comes before the other.
abbrev pub OneCaseIsFirst : Type 0
OneCaseIsFirst = (job : Job) (number : ℕ) (first second : List Decided) → IsJob job
    → IsCase job number first → IsCase job number second → first ≢ second
    → IsBefore first second ⊎ IsBefore second first

-- Starts with one case have the same cycles, and both are late or neither is.
abbrev pub CasesHaveOneEnd : Type 0
CasesHaveOneEnd = (job : Job) (number : ℕ) (a b : Start) → IsJob job → IsStartAt job number a → IsStartAt job number b
    → case_of job a ≡ case_of job b → (cycles_of job a ≡ cycles_of job b) × (is_late job a ≡ is_late job b)

-- Where the first bits of one start are those of whole cycles of another, they are those of as many cycles of its own
-- segment, and both are together before and after each of these.
abbrev pub StartsGoTogether : Type 0
StartsGoTogether = (job : Job) (number : ℕ) (a b : Start) (n : ℕ) (rest : List Decided) → IsJob job
    → IsStartAt job number a → IsStartAt job number b
    → n ≤ cycles_of job a → case_of job b ≡ bits_of_cycles job a n ++ rest
    → (n ≤ cycles_of job b) × (bits_of_cycles job b n ≡ bits_of_cycles job a n)
    × ((m : ℕ) → m ≤ n → AreTogether job a b m)

-- The segment of a start, where it isn't late, is the run of its cycles; these are one at least, and at most the
-- bound's number, which they are where it is late.
pub record HasCycles (job : Job) (start : Start) : Type 0 where
  pub segment : segment_of job start
      ≡ (if is_late job start then None else Some (board_run job start (cycles_of job start)))
  pub some : 0 < cycles_of job start
  pub within : cycles_of job start ≤ start.boundary.bound
  pub late : is_late job start ≡ true → cycles_of job start ≡ start.boundary.bound

-- So has each start of a job.
abbrev pub SegmentsHaveCycles : Type 0
SegmentsHaveCycles = (job : Job) (number : ℕ) (start : Start) → IsJob job → IsStartAt job number start
    → HasCycles job start

-- A list comes before another only where that doesn't come before it, and before what comes after that.
abbrev pub BeforeIsAnOrder : Type 0
BeforeIsAnOrder = (first second third : List Decided) → IsBefore first second
    → (¬ IsBefore second first) × (IsBefore second third → IsBefore first third)

-- none of the control addresses of a start after 1 to n cycles is a boundary's
abbrev pub HasNoBoundaryYet : Job → Start → (n : ℕ) → Type 0
HasNoBoundaryYet job start n =
    (k : ℕ) → 0 < k → k ≤ n → is_named (addresses_of job) (at_cycle job start k) ≡ false

-- Where no boundary has come after n cycles, and these are fewer than the bound, the segment has one more at least;
-- where the board is at a boundary after that one, the segment has just these n + 1, and isn't late. Where they are the
-- bound's number, the segment has them and is late.
abbrev pub SegmentsEnd : Type 0
SegmentsEnd = (job : Job) (start : Start) (n : ℕ) → HasNoBoundaryYet job start n
    → (n < start.boundary.bound → n < cycles_of job start)
    × (n < start.boundary.bound → is_named (addresses_of job) (at_cycle job start (n + 1)) ≡ true
    → (cycles_of job start ≡ n + 1) × (is_late job start ≡ false))
    × (n ≡ start.boundary.bound → (cycles_of job start ≡ n) × (is_late job start ≡ true))

-- The decided bits of the first cycles of a segment are the first of the start's case. Those of all its cycles are the
-- whole case where it is late; where it isn't, those of the step come behind them.
abbrev pub CasesBeginWithCycles : Type 0
CasesBeginWithCycles = (job : Job) (start : Start)
    → ((n : ℕ) → n ≤ cycles_of job start
    → (rest : List Decided) × (case_of job start ≡ bits_of_cycles job start n ++ rest))
    × (is_late job start ≡ true → case_of job start ≡ bits_of_cycles job start (cycles_of job start))
    × (is_late job start ≡ false
    → case_of job start ≡ bits_of_cycles job start (cycles_of job start) ++ bits_of_step job start)
