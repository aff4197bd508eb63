-- Where both sides of a case have ended, on terms.
use Rattle.std.specs.Prelude.{◌≡◌, ℕ, List, [], Bool, true, false, Option, Some, None, slice_index_or}
use Rattle.mw_term.specs.declared.side.Side.TheVariants.{Board}
use Rattle.mw_symmem.specs.Memory.{IsOfWidth}
use Rattle.mw_term.specs.declared.decided.Decided.{Decided}
use Rattle.mw_macro.specs.DescribedStep.{ended, step_of}
use Rattle.mw_rel.specs.CaseWords.{case_words, whole, with_comparisons}
use Rattle.mw_rel.specs.ComparisonWords.{compared_in}
use Rattle.mw_rel.specs.Job.{Job}
use Rattle.mw_rel.specs.SteadyStart.{Start}
use Rattle.mw_term.specs.Assigned.{Given}
use Rattle.mw_term.specs.Functions.{Function}
use Rattle.mw_symboard.specs.Laws.{IsInRun}
use Rattle.mw_symboard.specs.Parts.{AreParts}
use Rattle.mw_symboard.specs.Turns.{AreEvents, Symbolic}
use Rattle.mw_symmach.specs.Steps.{Stands, now_of}
use Rattle.mw_symmach.specs.Turns.{Stepping}
use Rattle.mw_symmach.specs.Walks.{underway_in}
use Rattle.mw_space.specs.declared.space.Space.{Space}
use Rattle.mw_course.specs.declared.run.Run.{Run}
use Rattle.mw_course.specs.Listed.{list_of_space, standing_on}
use Rattle.mw_course.specs.Starts.{Ground, StandsForStart, course_of}

-- under an assignment that stands for a start, the board is in the start's run, of which some bits were decided
pub record IsWithStart (job : Job) (space : Space) (given : Given) (start : Start) (board : Symbolic) : Type 0 where
  pub so_far : List Decided
  pub in_run : IsInRun job.board job.store space.terms space.memory given (course_of start) board so_far

-- A board on terms, on the board's side, is in the run of each start on a path, and its elements and events have terms of
-- their widths.
pub record IsBoardOf (job : Job) (number : ℕ) (g : Ground) (space : Space) (path : Function)
    (board : Symbolic) : Type 0 where
  pub with_start : (given : Given) (start : Start) → StandsForStart job number g given start → path given ≡ true
      → IsWithStart job space given start board
  pub side : board.place.side ≡ Board
  pub line : (term : ℕ) → board.place.line ≡ Some term → IsOfWidth space.terms 1 term
  pub parts : AreParts job.board space.terms board.place.parts
  pub events : AreEvents job.board space.terms board.events

-- A step on terms has ended: its terms have, for each start on a path, the values of what the start's step comes to.
pub record IsStepOf (job : Job) (number : ℕ) (g : Ground) (space : Space) (path : Function)
    (step : Stepping) : Type 0 where
  pub ends : (given : Given) (start : Start) → StandsForStart job number g given start → path given ≡ true
      → step_of job.machine start.pair.machine (slice_index_or start.env.line 0 false) start.env.inputs 0
      ≡ ended job.machine (now_of space.terms given space.memory start.pair.board.memory step.parts)
  pub stands : Stands job.machine.shape space.terms space.words space.memory step.parts

-- Both sides of a case that isn't late have ended after so many cycles, with all words of the case but those of the
-- comparison.
pub record HaveEnded (job : Job) (number : ℕ) (g : Ground) (bits : List Decided) (cycles : ℕ) (space : Space)
    (path : Function) (board : Symbolic) (step : Stepping) : Type 0 where
  pub of_board : IsBoardOf job number g space path board
  pub made : board.place.cycle ≡ cycles
  pub of_step : IsStepOf job number g space path step
  pub listed : case_words job number bits
      ≡ whole (list_of_space space)
      (with_comparisons job (standing_on space board) (underway_in space.terms space.words space.memory step.parts))

-- A case is late, and has no words behind its cycles; or it isn't, and both sides have ended.
abbrev pub EndsBy : Job → (number : ℕ) → Ground → (bits : List Decided) → (cycles : ℕ) → (late : Bool) → Run
    → (path : Function) → Option Stepping → Type 0
EndsBy job number g bits cycles late run path None =
    (late ≡ true)
    × (case_words job number bits ≡ whole (list_of_space run.space) (compared_in (list_of_space run.space) []))
EndsBy job number g bits cycles late run path (Some step) =
    (late ≡ false) × HaveEnded job number g bits cycles run.space path run.board step
