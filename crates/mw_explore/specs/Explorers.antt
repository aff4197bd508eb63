-- What an explorer keeps, and what its parts do.
use Rattle.std.specs.Prelude.{◌≡◌, ℕ, List, [], ◌∷◌, ◌++◌}
use Rattle.std.specs.List.{AllZip}
use Rattle.mw_term.specs.declared.decided.Decided.{Decided}
use Rattle.mw_explore.specs.declared.stage.Stage.{Stage}
use Rattle.mw_explore.specs.declared.stage.Stage.TheVariants as stages
use Rattle.mw_explore.specs.declared.way.Kept.{Kept}
use Rattle.mw_explore.specs.Cases.{At, Before, Behind, IsNext, NoneComesBefore, OneIsToCome, Standing}
use Rattle.mw_explore.specs.KeptBits.{AreKeptBits, IsWayFrom}
use Rattle.mw_explore.specs.Ways.{all_turned, bits_of}

-- The tree whose cases are given, how many may be, how many were, and where it stands among them.
pub record Explorer (Tree : Type 0) : Type 0 where
  pub tree : Tree
  pub limit : ℕ
  pub given : ℕ
  pub at : Standing

-- where it stands, by the bits that it keeps
abbrev pub standing_of : {Course : Type 0} → Stage Course → List Kept → Standing
standing_of stages.Before way = Before
standing_of (stages.At course) way = At (bits_of way)
standing_of stages.Behind way = Behind

-- one waits at each of the bits that can be turned, in the order of the bits
abbrev pub AreWaiting : {Waiting : Type 0} → (IsWaiting : Waiting → List Decided → Type 0) → (way : List Kept)
    → List Waiting → Type 0
AreWaiting IsWaiting way waiting = AllZip (λ turned w. IsWaiting w (bits_of turned)) (all_turned [] way) waiting

-- A course has come along the bits of its way or has met all of a case, as is said; these are kept bits, and one waits
-- at each of them that can be turned.
pub record Stands {Course Waiting : Type 0} (IsCase : List Decided → Type 0) (Has : Course → List Decided → Type 0)
    (IsWaiting : Course → Waiting → List Decided → Type 0) (course : Course) (way : List Kept) (waiting : List Waiting)
    : Type 0 where
  pub has : Has course (bits_of way)
  pub kept : AreKeptBits IsCase [] way
  pub waits : AreWaiting (IsWaiting course) way waiting

-- it stands so at its stage
pub record StandsAt {Course Waiting : Type 0} (IsCase : List Decided → Type 0) (Has : Course → List Decided → Type 0)
    (IsWaiting : Course → Waiting → List Decided → Type 0) (stage : Stage Course) (way : List Kept)
    (waiting : List Waiting) : Type 0 where
  pub course : Course
  pub at : stage ≡ stages.At course
  pub stands : Stands IsCase Has IsWaiting course way waiting

-- What is kept where it stands: nothing before all cases; and at one the course that has gone through it.
abbrev pub Keeps : {Course Waiting : Type 0} → (IsCase : List Decided → Type 0)
    → (HasGone : Course → List Decided → Type 0) → (IsWaiting : Course → Waiting → List Decided → Type 0)
    → Stage Course → (way : List Kept) → List Waiting → Type 0
Keeps IsCase HasGone IsWaiting stages.Before way waiting = (way ≡ []) × (waiting ≡ [])
Keeps IsCase HasGone IsWaiting (stages.At course) way waiting = Stands IsCase HasGone IsWaiting course way waiting
Keeps IsCase HasGone IsWaiting stages.Behind way waiting = Unit {0}

-- The course of the next case may begin, of which these bits were turned: the first of all, or the last that waits.
abbrev pub IsToBegin : {Course Waiting : Type 0} → (IsWaiting : Course → Waiting → List Decided → Type 0)
    → Stage Course → (way : List Kept) → List Waiting → Type 0
IsToBegin IsWaiting stages.Before way waiting = (way ≡ []) × (waiting ≡ [])
IsToBegin IsWaiting (stages.At course) way waiting =
    AllZip (λ turned w. IsWaiting course w (bits_of turned)) (all_turned [] way ++ way ∷ []) waiting
IsToBegin IsWaiting stages.Behind way waiting = ⊥

-- Kept bits lead to the next case: there is one, and it is that of each course that began with them and has met all bits
-- of a case. None that is to come stands before the bits of such a course.
pub record LeadsToNext (IsCase : List Decided → Type 0) (at : Standing) (kept : List Kept) : Type 0 where
  pub are_kept : AreKeptBits IsCase [] kept
  pub some : OneIsToCome IsCase at
  pub next : (way : List Kept) → IsWayFrom IsCase kept way → IsCase (bits_of way) → IsNext IsCase at (bits_of way)
  pub none_before : (way : List Kept) → IsWayFrom IsCase kept way → NoneComesBefore IsCase at (bits_of way)
