-- A course with the diagrams of its path, and those that wait.
use Rattle.std.specs.Prelude.{◌≡◌, ℕ, List}
use Rattle.mw_term.specs.declared.decided.Decided.{Decided}
use Rattle.mw_path.specs.declared.paths.Paths.{Paths}
use Rattle.mw_path.specs.Paths.{AreMade, StayOnPath, path_in}
use Rattle.mw_rel.specs.Job.{Job}
pub use Rattle.mw_decide.specs.SpacePaths.{HavePaths}
use Rattle.mw_course.specs.Courses as courses
use Rattle.mw_course.specs.Courses.{IsOtherCourse}
use Rattle.mw_course.specs.declared.course.Course.{Course}
use Rattle.mw_decide.specs.declared.traced.Traced as going
use Rattle.mw_decide.specs.declared.traced.Waiting as waiting
pub use Rattle.mw_decide.specs.Traces.{over_places, paths_over, traced_over}

-- ---- courses

-- a course with its path
abbrev pub Traced : Type 0
Traced = going.Traced Course

-- one that waits, over what all have made
abbrev pub Waiting : Type 0
Waiting = waiting.Waiting Course

-- one that is on its way, and waits for no bit
pub record IsGoing (job : Job) (number : ℕ) (bits : List Decided) (traced : Traced) : Type 0 where
  pub course : courses.IsGoing job number bits (path_in traced.paths) traced.course
  pub paths : HavePaths traced.course.run.space traced.paths

-- one that has ended, and has met all bits of a case
pub record HasGone (job : Job) (number : ℕ) (bits : List Decided) (traced : Traced) : Type 0 where
  pub course : courses.HasGone job number bits (path_in traced.paths) traced.course
  pub paths : HavePaths traced.course.run.space traced.paths

-- ---- a comparison

-- a course that was compared: only what it works on has changed, and what was made has grown
pub record StaysAs (old new : Traced) : Type 0 where
  pub made : AreMade new.paths
  pub paths : StayOnPath old.paths new.paths
  pub board : new.course.run.board ≡ old.course.run.board
  pub registers : new.course.run.registers ≡ old.course.run.registers
  pub cycles : new.course.cycles ≡ old.course.cycles
  pub step : new.course.step ≡ old.course.step

-- ---- those that wait

-- one was let wait by a course on this path, with 1 for the bit that is waited for
pub record IsOther (traced : Traced) (path : ℕ) (w : Waiting) : Type 0 where
  pub course : IsOtherCourse traced.course w.course
  pub places : w.places ≡ traced.paths.places
  pub path_is : w.path ≡ path

-- it has come along these bits
abbrev pub IsWaiting : Job → (number : ℕ) → Paths → (bits : List Decided) → Waiting → Type 0
IsWaiting job number made bits w = IsGoing job number bits (traced_over made w)
