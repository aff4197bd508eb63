-- Paths of decided bits, and the cases of the starts that take them.
use Rattle.std.specs.Prelude.{◌≡◌, ℕ, List, length, Bool, true, Some, slice_get, ◌==◌}
use Rattle.mw_term.specs.declared.decided.Decided.{Decided}
use Rattle.mw_cycle.specs.Decided.{decided}
use Rattle.mw_term.specs.Assigned.{Given}
use Rattle.mw_term.specs.declared.decided.DecidedKind.{DecidedKind}
use Rattle.mw_term.specs.Functions.{Function}
use Rattle.mw_term.specs.Values.{term_value}
use Rattle.mw_symboard.specs.Seen.{AreFirst}
use Rattle.mw_rel.specs.SteadyCase.{IsStartAt, bits_of_cycles, case_of, cycles_of, is_late}
use Rattle.mw_rel.specs.SteadyCaseLaws.{HasNoBoundaryYet}
use Rattle.mw_rel.specs.Job.{Job}
use Rattle.mw_rel.specs.SteadyStart.{Start}
use Rattle.mw_course.specs.Starts.{Ground, StandsForStart}

-- where a path is true, this holds of the start
abbrev pub OnPath : Job → (number : ℕ) → Ground → (path : Function) → (Start → Type 0) → Type 0
OnPath job number g path Holds =
    (given : Given) (start : Start) → StandsForStart job number g given start → path given ≡ true → Holds start

-- a path of these decided bits: it is true exactly where they are the first of the start's case
pub record IsCasePath (job : Job) (number : ℕ) (g : Ground) (bits : List Decided) (path : Function) : Type 0 where
  pub first : OnPath job number g path (λ start. AreFirst bits (case_of job start))
  pub only : (given : Given) (start : Start)
      → StandsForStart job number g given start → AreFirst bits (case_of job start) → path given ≡ true

-- where the path is true, the next decided bit of the start's case is of this kind, and has the value of this term
abbrev pub IsNextOfCase : Job → (number : ℕ) → Ground → (bits : List Decided) → (path : Function) → DecidedKind
    → (term : ℕ) → Type 0
IsNextOfCase job number g bits path kind term =
    (given : Given) (start : Start) → StandsForStart job number g given start → path given ≡ true
    → slice_get (case_of job start) (length bits) ≡ Some (decided kind (term_value g.table given term == 1))

-- where the path is true, no boundary has come after the first so many cycles
abbrev pub HasNoBoundary : Job → (number : ℕ) → Ground → (path : Function) → (count : ℕ) → Type 0
HasNoBoundary job number g path count = OnPath job number g path (λ start. HasNoBoundaryYet job start count)

-- a start's segment has so many cycles, is late or isn't, and decides these bits
pub record EndsSo (job : Job) (cycles : ℕ) (late : Bool) (bits : List Decided) (start : Start) : Type 0 where
  pub cycles_are : cycles_of job start ≡ cycles
  pub late_is : is_late job start ≡ late
  pub bits_are : bits_of_cycles job start cycles ≡ bits

-- where the path is true, the start's segment ends so
abbrev pub HasSegment : Job → (number : ℕ) → Ground → (path : Function) → (cycles : ℕ) → (late : Bool)
    → (bits : List Decided) → Type 0
HasSegment job number g path cycles late bits = OnPath job number g path (EndsSo job cycles late bits)

-- where the path is true, these are all bits of the start's case
abbrev pub HasCase : Job → (number : ℕ) → Ground → (path : Function) → (bits : List Decided) → Type 0
HasCase job number g path bits = OnPath job number g path (λ start. case_of job start ≡ bits)
