-- A course through a twin case with the diagrams of its path, and those that wait.
use Rattle.std.specs.Prelude.{◌≡◌, ℕ, List, true}
use Rattle.mw_decide.specs.declared.traced.Traced as going
use Rattle.mw_decide.specs.declared.traced.Waiting as waiting
use Rattle.mw_decide.specs.SpacePaths.{HavePaths}
use Rattle.mw_decide.specs.Traces.{traced_over}
use Rattle.mw_path.specs.declared.paths.Paths.{Paths}
use Rattle.mw_path.specs.Paths.{path_in}
use Rattle.mw_term.specs.declared.decided.Decided.{Decided}
use Rattle.mw_term.specs.declared.decided.DecidedKind.{DecidedKind}
use Rattle.mw_twin.specs.declared.course.Course.{Course}
use Rattle.mw_twin.specs.Courses.{HasElementTerms, HasMetCase, HasRun, IsGivenTo, IsOnCourse, IsReady, WaitsIn}
use Rattle.mw_twin.specs.Courses.{WaitsOnCourse}
use Rattle.mw_twin.specs.RevisedBlocks.{RevisedBlock}
use Rattle.mw_twincompare.specs.Failing as courses
use Rattle.mw_twincompare.specs.Failing.{PathsStay}

-- a course with its path
abbrev pub Traced : Type 0
Traced = going.Traced Course

-- one that waits, over what all have made
abbrev pub Waiting : Type 0
Waiting = waiting.Waiting Course

-- one that is on its way, and waits for no bit
pub record IsGoing (s : RevisedBlock) (bits : List Decided) (traced : Traced) : Type 0 where
  pub ready : IsReady s traced.course
  pub terms : HasElementTerms s traced.course
  pub on : IsOnCourse s bits (path_in traced.paths) traced.course traced.course.new_board
  pub paths : HavePaths traced.course.space traced.paths

-- one that waits for the next bit, of this kind, by this term
pub record IsAsking (s : RevisedBlock) (bits : List Decided) (kind : DecidedKind) (term : ℕ) (traced : Traced)
    : Type 0 where
  pub waits : WaitsIn s traced.course traced.course.new_board kind term
  pub terms : HasElementTerms s traced.course
  pub on : WaitsOnCourse s bits (path_in traced.paths) traced.course traced.course.new_board kind term
  pub paths : HavePaths traced.course.space traced.paths

-- one that has ended, and has met all bits of a case
pub record HasGone (s : RevisedBlock) (bits : List Decided) (traced : Traced) : Type 0 where
  pub run : HasRun s traced.course
  pub terms : HasElementTerms s traced.course
  pub met : HasMetCase s bits (path_in traced.paths) traced.course traced.course.new_board
  pub paths : HavePaths traced.course.space traced.paths

-- ---- a comparison

-- one that was compared: only what it works on has changed, and what was made has grown
pub record StaysAs (old new : Traced) : Type 0 where
  pub course : courses.StaysAs old.course new.course
  pub paths : PathsStay old.paths new.paths

-- ---- those that wait

-- one was let wait by a course on this path, with 1 for the bit that is waited for
pub record IsOther (traced : Traced) (path : ℕ) (w : Waiting) : Type 0 where
  pub course : IsGivenTo true traced.course w.course
  pub places : w.places ≡ traced.paths.places
  pub path_is : w.path ≡ path

-- it has come along these bits
abbrev pub IsWaiting : RevisedBlock → Paths → (bits : List Decided) → Waiting → Type 0
IsWaiting s made bits w = IsGoing s bits (traced_over made w)
