-- The extreme lengths of the cases of a boundary that were gone through.
use Rattle.std.specs.Prelude.{◌≡◌, ◌≢◌, ℕ, List, [], All, Bool, true, false, Contains, Option, Some, None}
use Rattle.mw_term.specs.declared.decided.Decided.{Decided}
use Rattle.mw_rel.specs.Case.{IsBefore, IsStartAt, case_of}
use Rattle.mw_rel.specs.Job.{Job}
use Rattle.mw_rel.specs.OverBudget.{AreWithin}
use Rattle.mw_rel.specs.Start.{Start}
use Rattle.mw_fork.specs.Begins.{IsFirstOfCase, IsOfCase}
use Rattle.mw_bounds.specs.declared.extreme.Extremes.{Extremes}
use Rattle.mw_bounds.specs.declared.extreme.Shown.{Shown}
use Rattle.mw_bounds.specs.declared.extreme.Side.{Side}
use Rattle.mw_bounds.specs.declared.extreme.Side.TheVariants.{Least, Greatest}
use Rattle.mw_bounds.specs.declared.length.Length.{Length}
use Rattle.mw_bounds.specs.Lengths.{is_less, length_of}

-- a length goes beyond another one on a side
abbrev pub goes_beyond : Side → (length other : Length) → Bool
goes_beyond Least length other = is_less length other
goes_beyond Greatest length other = is_less other length

-- it goes beyond the one that is shown so far, or none is
abbrev pub goes_beyond_shown : Side → Length → Option Shown → Bool
goes_beyond_shown side length None = true
goes_beyond_shown side length (Some shown) = goes_beyond side length shown.length

-- each start with a case has this length
abbrev pub HasLength : Job → (number : ℕ) → Length → List Decided → Type 0
HasLength job number lasts bits =
    (start : Start) → IsStartAt job number start → case_of job start ≡ bits → length_of job start ≡ lasts

-- no start with a case goes beyond a length
abbrev pub NoneGoesBeyond : Job → (number : ℕ) → Side → Length → List Decided → Type 0
NoneGoesBeyond job number side lasts bits = (start : Start) → IsStartAt job number start → case_of job start ≡ bits
    → goes_beyond side (length_of job start) lasts ≡ false

-- another case with a start of this length comes later
abbrev pub ComesLater : Job → (number : ℕ) → Length → (bits other : List Decided) → Type 0
ComesLater job number lasts bits other = (start : Start) → IsStartAt job number start → case_of job start ≡ other
    → length_of job start ≡ lasts → other ≢ bits → IsBefore bits other

-- What is shown is the extreme length of some cases: no start of theirs goes beyond it, and the first of them that has
-- it has the start that is shown.
pub record IsExtremeOf (job : Job) (number : ℕ) (side : Side) (shown : Shown) (cases : List (List Decided))
    : Type 0 where
  pub bits : List Decided
  pub among : Contains cases bits
  pub of_case : IsOfCase job number bits shown.begin
  pub first : IsFirstOfCase job number bits shown.begin
  pub has : HasLength job number shown.length bits
  pub none_beyond : All (NoneGoesBeyond job number side shown.length) cases
  pub first_case : All (ComesLater job number shown.length bits) cases

-- so it is, or there are no cases
abbrev pub IsExtreme : Job → (number : ℕ) → Side → Option Shown → (cases : List (List Decided)) → Type 0
IsExtreme job number side None cases = cases ≡ []
IsExtreme job number side (Some shown) cases = IsExtremeOf job number side shown cases

-- some cases were gone through: both extremes are theirs, and their decided bits are within so many nodes
pub record AreExtremes (job : Job) (number nodes : ℕ) (extremes : Extremes) (cases : List (List Decided))
    : Type 0 where
  pub decided : All (AreWithin job number nodes) cases
  pub least : IsExtreme job number Least extremes.least cases
  pub greatest : IsExtreme job number Greatest extremes.greatest cases
