-- A course on its way through a case.
use Rattle.std.specs.Prelude.{◌≡◌, ℕ, ◌<◌, ◌++◌, ◌∷◌, List, [], map, Bool, true, false, Option, None, slice_index_or}
use Rattle.mw_term.specs.declared.decided.Decided.{Decided}
use Rattle.mw_cycle.specs.Decided.{decided}
use Rattle.mw_macro.specs.StepWords.{Underway}
use Rattle.mw_term.specs.Assigned.{Given}
use Rattle.mw_term.specs.Cofactors.{Agree}
use Rattle.mw_term.specs.declared.decided.DecidedKind.{DecidedKind}
use Rattle.mw_term.specs.declared.decided.DecidedKind.TheVariants.{Branch}
use Rattle.mw_term.specs.Functions.{Function, always}
use Rattle.mw_symmem.specs.declared.turn.Turn.{Turn}
use Rattle.mw_symmem.specs.declared.turn.Turn.TheVariants.{Ask, Finished}
use Rattle.mw_symboard.specs.Paths.{AreAll, IsNextBit, IsPath, IsBy}
use Rattle.mw_symboard.specs.Turns.{Symbolic, decided_so}
use Rattle.mw_symmach.specs.Along.{AsksAlong, IsAlong, IsDoneAlong}
use Rattle.mw_symmach.specs.Laws.{IsInStep}
use Rattle.mw_symmach.specs.Turns as step
use Rattle.mw_symmach.specs.Turns.{Stepping, is_asked}
use Rattle.mw_rel.specs.CaseWords.{case_words, whole}
use Rattle.mw_rel.specs.ComparisonWords.{compared_in}
use Rattle.mw_rel.specs.Free.{numbered}
use Rattle.mw_rel.specs.Job.{Job}
use Rattle.mw_rel.specs.SteadyStart.{Start}
use Rattle.mw_space.specs.declared.space.Space.{Space}
use Rattle.mw_course.specs.declared.run.Run.{Run}
use Rattle.mw_course.specs.CasePaths.{HasCase, HasNoBoundary, HasSegment, IsNextOfCase, IsCasePath}
use Rattle.mw_course.specs.Ends.{EndsBy, IsBoardOf, IsStepOf}
use Rattle.mw_course.specs.Listed.{AsksFor, ComesTo, left_behind_cycle, left_behind_segment, left_in_cycle}
use Rattle.mw_course.specs.Listed.{left_of_cycles, left_of_step, list_of_space, standing_on}
use Rattle.mw_course.specs.Runs.{IsUnder}
use Rattle.mw_course.specs.Starts.{IsGround, StandsForStart, origin_of, registers_of, Ground, ground_of}
use Rattle.mw_course.specs.Steps.{said_from}
use Rattle.mw_rel.specs.SteadyCase.{IsFeasiblePrefix}
use Rattle.mw_rel.specs.PathWords.{path_of}

-- a run of a job, within a cycle of its board
abbrev pub IsRunOf : Job → Run → Type 0
IsRunOf job run = IsUnder job run.space.terms run.space.words run.space.memory run.board run.registers

-- what a space has, with the terms of the elements at the start
abbrev pub ground_in : Space → (elements : List ℕ) → Ground
ground_in space elements = ground_of space.terms space.words space.memory elements

-- A course from a boundary is on its way through a case: its path is that of the bits that it has met, and that of the word
-- list; and a case begins with them.
pub record IsOnWay (job : Job) (number : ℕ) (g : Ground) (bits : List Decided) (path : Function) : Type 0 where
  pub stands : IsGround job number g
  pub written : Agree path (path_of job number bits)
  pub cases : IsCasePath job number g bits path
  pub feasible : IsFeasiblePrefix job number bits

-- A bit was decided: the course is on its way with one more, along the path by it.
pub record HasDecided (job : Job) (number : ℕ) (g : Ground) (bits : List Decided) (path next : Function)
    (kind : DecidedKind) (term : ℕ) (value : Bool) : Type 0 where
  pub on : IsOnWay job number g (bits ++ decided kind value ∷ []) next
  pub by : IsBy g.table term value path next

-- ---- through the cycles of the board

-- The board is in the run of each start on the path, and no boundary has come after the first so many cycles. Where it
-- is in the next one, and waits for no bit, what is left of that and of those behind it is left of the word list.
pub record IsOnRun (job : Job) (number : ℕ) (elements : List ℕ) (bits : List Decided) (path : Function) (run : Run)
    (count : ℕ)
    : Type 0 where
  pub on : IsOnWay job number (ground_in run.space elements) bits path
  pub in_run : IsPath job.board job.store run.space.terms run.space.words run.space.memory
      (origin_of job number elements) run.board bits path
  pub passed : HasNoBoundary job number (ground_in run.space elements) path count
  pub unwritten : run.space.memory.machine ≡ []
  pub registers : run.registers ≡ registers_of job elements
  pub listed : run.board.asked ≡ None → run.board.place.cycle ≡ count
      → ComesTo job number bits (left_in_cycle job number run.space run.registers run.board)

-- it asks for a bit where the word list asks for it, and with either value what is left of its cycle is left of the
-- list
pub record AsksInCycle (job : Job) (number : ℕ) (bits : List Decided) (run : Run) (kind : DecidedKind)
    (term : ℕ) : Type 0 where
  pub here : AsksFor job number bits (ground_in run.space []) term
  pub on : (value : Bool) → ComesTo job number (bits ++ decided kind value ∷ [])
      (left_in_cycle job number run.space run.registers (decided_so run.board kind value))

-- the bits that it has met are all those of its finished cycles
abbrev pub HasMetAll : Job → (number : ℕ) → (elements : List ℕ) → (bits : List Decided) → (path : Function) → Run
    → Type 0
HasMetAll job number elements bits path run =
    AreAll job.board job.store run.space.terms run.space.words run.space.memory
    (origin_of job number elements) run.board
    bits path

-- its cycle is finished: the bits that it has met are all, the next cycle hasn't begun, and what is behind it is left
-- of the word list
pub record HasFinished (job : Job) (number : ℕ) (elements : List ℕ) (bits : List Decided) (path : Function)
    (run : Run) : Type 0 where
  pub all : HasMetAll job number elements bits path run
  pub before : run.board.reading ≡ None
  pub left : ComesTo job number bits (left_behind_cycle job number run.space run.registers run.board)

-- after a turn: it asks for the next bit of the cases on its path, where the cycle is one of their segments; or the
-- cycle is finished
abbrev pub IsTurnedOnRun : Job → (number : ℕ) → (elements : List ℕ) → (bits : List Decided) → (path : Function)
    → Run → (count : ℕ)
    → Turn → Type 0
IsTurnedOnRun job number elements bits path run count (Ask kind term) =
    IsOnRun job number elements bits path run count
    × IsNextBit job.board job.store run.space.terms run.space.words run.space.memory (origin_of job number elements)
    run.board bits path kind term
    × AsksInCycle job number bits run kind term
IsTurnedOnRun job number elements bits path run count Finished =
    IsOnRun job number elements bits path run count × HasFinished job number elements bits path run

-- The segment of each start on its path has so many cycles, is late or isn't, and decides the bits that it has met.
-- Where it isn't late, the described step is left of the word list.
pub record HasMetSegment (job : Job) (number : ℕ) (elements : List ℕ) (cycles : ℕ) (late : Bool)
    (bits : List Decided) (path : Function) (run : Run) : Type 0 where
  pub on : IsOnWay job number (ground_in run.space elements) bits path
  pub ended : HasSegment job number (ground_in run.space elements) path cycles late bits
  pub unwritten : run.space.memory.machine ≡ []
  pub registers : run.registers ≡ registers_of job elements
  pub listed : late ≡ false
      → ComesTo job number bits (left_of_step job run.space run.registers run.board)
  pub late_listed : late ≡ true
      → case_words job number bits ≡ whole (list_of_space run.space) (compared_in (list_of_space run.space) [])
  pub of_board : IsBoardOf job number (ground_in run.space elements) run.space path run.board
  pub made : run.board.place.cycle ≡ cycles

-- The bits that it has met are all of the case of each start on its path, whose segment has so many cycles, and is late
-- or isn't; then its step is this.
pub record HasMetCase (job : Job) (number : ℕ) (elements : List ℕ) (cycles : ℕ) (late : Bool)
    (bits : List Decided) (path : Function) (run : Run) (step : Option Stepping) : Type 0 where
  pub on : IsOnWay job number (ground_in run.space elements) bits path
  pub whole : HasCase job number (ground_in run.space elements) path bits
  pub segment : List Decided
  pub ended : HasSegment job number (ground_in run.space elements) path cycles late segment
  pub ends : EndsBy job number (ground_in run.space elements) bits cycles late run path step

-- A run that has met no bit: every start is on its path, and no cycle has begun.
pub record IsFirst (job : Job) (number : ℕ) (elements : List ℕ) (path : Function) (run : Run) : Type 0 where
  pub stands : IsGround job number (ground_in run.space elements)
  pub everywhere : Agree path always
  pub in_run : IsPath job.board job.store run.space.terms run.space.words run.space.memory
      (origin_of job number elements) run.board [] path
  pub unwritten : run.space.memory.machine ≡ []
  pub registers : run.registers ≡ registers_of job elements
  pub before : run.board.reading ≡ None
  pub listed : ComesTo job number []
      (left_of_cycles job run.space run.registers run.board (numbered job number).bound)

-- ---- through the described step

-- what the step of a start has to do with
abbrev pub scene_of : Start → step.Scene
scene_of start = record { image = start.pair.board.memory; inputs = start.env.inputs }

-- The step is in that of each start on the path, of which these bits were given; they stand behind those of a segment
-- with so many cycles, which isn't late, at the end of which the board is. What is left of the word list behind the
-- segment is the step from where it began; and where it waits for no bit, it has come along the bits that were given.
pub record IsOnStep (job : Job) (number : ℕ) (elements : List ℕ) (cycles : ℕ)
    (segment : List Decided)
    (board : Symbolic) (bits : List Decided) (space : Space) (path : Function) (o : Stepping) : Type 0 where
  pub on : IsOnWay job number (ground_in space elements) bits path
  pub ended : HasSegment job number (ground_in space elements) path cycles false segment
  pub so_far : List Bool
  pub met : bits ≡ segment ++ map (decided Branch) so_far
  pub in_step : (given : Given) (start : Start) → StandsForStart job number (ground_in space elements) given start
      → path given ≡ true
      → IsInStep job.machine space.terms space.memory given (scene_of start) o start.pair.machine
      (slice_index_or start.env.line 0 false) so_far
  pub of_board : IsBoardOf job number (ground_in space elements) space path board
  pub begun : Underway
  pub listed : ComesTo job number segment (left_behind_segment job (standing_on space board) begun)
  pub along : is_asked o.pending ≡ false
      → IsAlong (said_from job.machine begun) job.machine so_far space.terms space.words space.memory o

-- a step that has met all bits of the cases on its path has ended, along the bits that were given
pub record HasEndedStep (job : Job) (number : ℕ) (elements : List ℕ) (begun : Underway)
    (so_far : List Bool) (space : Space)
    (path : Function) (o : Stepping) : Type 0 where
  pub of_step : IsStepOf job number (ground_in space elements) space path o
  pub along : IsDoneAlong (said_from job.machine begun) so_far space.terms space.words space.memory o

-- after a turn: it asks for the next bit of the cases on the path, or has met all their bits
abbrev pub IsTurnedOnStep : Job → (number : ℕ) → (elements : List ℕ) → (cycles : ℕ)
    → (segment : List Decided) → (board : Symbolic) → (bits : List Decided) → Space → (path : Function) → Stepping
    → Turn → Type 0
IsTurnedOnStep job number elements cycles segment board bits space path o (Ask kind term) =
    (on : IsOnStep job number elements cycles segment board bits space path o)
    × IsNextOfCase job number (ground_in space elements) bits path kind term
    × AsksAlong (said_from job.machine on.begun) job.machine on.so_far space.terms space.words space.memory o term
IsTurnedOnStep job number elements cycles segment board bits space path o Finished =
    (on : IsOnStep job number elements cycles segment board bits space path o)
    × HasCase job number (ground_in space elements) path bits
    × HasEndedStep job number elements on.begun on.so_far space path o

-- ---- what a call keeps

-- a turn: a run that is on its way is so still, and what it asks for, or that the cycle is finished, holds of its cases
abbrev pub Turns : Job → (before after : Run) → Turn → Type 0
Turns job before after turn =
    (number : ℕ) (elements : List ℕ) (bits : List Decided) (path : Function)
    → IsOnRun job number elements bits path before before.board.place.cycle
    → IsTurnedOnRun job number elements bits path after before.board.place.cycle turn
