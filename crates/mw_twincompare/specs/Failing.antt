-- What is found of the twin starts of a case that differ.
use Rattle.std.specs.Prelude.{◌≡◌, ◌≢◌, ℕ, List, None}
use Rattle.mw_dd.specs.Diagrams.{IsFirst}
use Rattle.mw_path.specs.declared.paths.Paths.{Paths}
use Rattle.mw_path.specs.Paths.{AreMade, StayOnPath}
use Rattle.mw_revise.specs.TwinBudgets.{IsTwinSought, IsTwinStartAt}
use Rattle.mw_revise.specs.TwinCase.{twin_case}
use Rattle.mw_revise.specs.TwinDiffers.{twin_difference}
use Rattle.mw_revise.specs.TwinStart.{TwinStart}
use Rattle.mw_space.specs.declared.space.Space.{Space}
use Rattle.mw_space.specs.Spaces.{list_of_space}
use Rattle.mw_term.specs.Assigned.{Numbers, given_by}
use Rattle.mw_term.specs.declared.decided.Decided.{Decided}
use Rattle.mw_term.specs.Functions.{Function}
use Rattle.mw_twin.specs.declared.course.Course.{Course}
use Rattle.mw_twin.specs.Grounds.{StandsForTwins}
use Rattle.mw_twin.specs.Origins.{IsGround, ground_in}
use Rattle.mw_twin.specs.RevisedBlocks.{RevisedBlock}

-- no twin start with a case differs
abbrev pub NoneDiffersOf : RevisedBlock → (bits : List Decided) → Type 0
NoneDiffersOf s bits = (twins : TwinStart) → IsTwinStartAt s.revision s.block twins → twin_case s.revision twins ≡ bits
    → twin_difference s.revision twins ≡ None

-- Numbers are the first of those that are sought in a case, in the list of what there is; and each twin start without
-- waits that they stand for has this case and differs. Both boards' elements begin with these terms.
pub record IsFound (s : RevisedBlock) (old_elements new_elements : List ℕ) (bits : List Decided) (space : Space)
    (numbers : Numbers) : Type 0 where
  pub stands : IsGround s.revision.board s.block (ground_in space old_elements new_elements)
  pub sought : Function
  pub among : IsTwinSought s.revision s.block bits sought (list_of_space space)
  pub first : IsFirst sought numbers
  pub of_case : (twins : TwinStart)
      → StandsForTwins s.revision s.block (ground_in space old_elements new_elements) (given_by numbers) twins
      → twin_case s.revision twins ≡ bits
  pub differs : (twins : TwinStart)
      → StandsForTwins s.revision s.block (ground_in space old_elements new_elements) (given_by numbers) twins
      → twin_difference s.revision twins ≢ None

-- a course that was compared: only what it works on has changed
pub record StaysAs (old new : Course) : Type 0 where
  pub old_elements : new.old_elements ≡ old.old_elements
  pub new_elements : new.new_elements ≡ old.new_elements
  pub old_board : new.old_board ≡ old.old_board
  pub new_board : new.new_board ≡ old.new_board
  pub late : new.late ≡ old.late

-- its paths have grown
pub record PathsStay (old new : Paths) : Type 0 where
  pub made : AreMade new
  pub stay : StayOnPath old new
