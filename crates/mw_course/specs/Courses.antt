-- The course of a case: through the cycles of its segment, and behind that through the described step.
use Rattle.std.specs.Prelude.{◌≡◌, ℕ, ◌<◌, ◌≤◌, List, length, Bool, true, false, Option, Some, None}
use Rattle.std.specs.Option.{is_none}
use Rattle.mw_board.specs.declared.parts.BoardParts.{BoardParts}
use Rattle.mw_term.specs.declared.decided.Decided.{Decided}
use Rattle.mw_term.specs.declared.decided.DecidedKind.{DecidedKind}
use Rattle.mw_term.specs.declared.kinds.WordKind.TheVariants.{Probe}
use Rattle.mw_term.specs.declared.word.Word.{Word}
use Rattle.mw_term.specs.Table.{Table}
use Rattle.mw_term.specs.WordList.{term_of}
use Rattle.mw_macro.specs.Machine.{Description}
use Rattle.mw_symmem.specs.Memory.{Memory}
use Rattle.mw_symmem.specs.declared.turn.Turn.{Turn}
use Rattle.mw_symmem.specs.declared.turn.Turn.TheVariants.{Ask, Finished}
use Rattle.mw_symboard.specs.Turns as board
use Rattle.mw_symmach.specs.Turns as machine
use Rattle.mw_symmach.specs.Turns.{Stepping, is_asked}
use Rattle.mw_symmach.specs.Walks.{chosen}
use Rattle.mw_rel.specs.Free.{numbered}
use Rattle.mw_rel.specs.Job.{Job}
use Rattle.mw_course.specs.declared.course.Course.{Course}
use Rattle.mw_course.specs.declared.run.Run.{Run}
use Rattle.mw_segment.specs.declared.cycles.Came.{Came}
use Rattle.mw_segment.specs.declared.cycles.Came.TheVariants as came
use Rattle.mw_course.specs.OnWay.{HasMetCase, HasMetSegment, IsOnRun, IsOnStep, IsRunOf, IsTurnedOnRun, IsTurnedOnStep}
use Rattle.mw_course.specs.Steps.{IsUnderway}
use Rattle.mw_term.specs.Functions.{Function}

-- ---- where it stands

-- it waits for no bit: it is in a cycle of the segment, or in the step
abbrev pub IsReady : Job → (number : ℕ) → Run → Option Stepping → Type 0
IsReady job number run None =
    IsRunOf job run × (run.board.asked ≡ None) × (run.board.place.cycle < (numbered job number).bound)
IsReady job number run (Some step) =
    IsUnderway job.machine run.space.terms run.space.words run.space.memory step × (is_asked step.pending ≡ false)

-- it waits for a bit of this kind, by this term
abbrev pub Waits : Job → (number : ℕ) → Run → Option Stepping → DecidedKind → (term : ℕ) → Type 0
Waits job number run None kind term =
    IsRunOf job run × (run.board.place.cycle < (numbered job number).bound)
    × board.Asks job.board job.store run.space.terms run.space.words run.space.memory run.board kind term
Waits job number run (Some step) kind term =
    IsUnderway job.machine run.space.terms run.space.words run.space.memory step
    × machine.Asks job.machine run.space.terms run.space.words run.space.memory step kind term

-- it has ended: there were few base reads, and there is no probe
pub record HasRun (run : Run) : Type 0 where
  pub few : length run.space.memory.reads ≤ 1024
  pub fresh : term_of run.space.words Probe ≡ None

-- after a turn it waits for a bit, or has ended
abbrev pub IsTurned : Job → (number : ℕ) → Run → Option Stepping → Turn → Type 0
IsTurned job number run step (Ask kind term) = Waits job number run step kind term
IsTurned job number run step Finished = HasRun run

-- where it comes to in its segment: it waits for a bit, or has ended
abbrev pub Comes : Job → (number : ℕ) → Run → Came → Type 0
Comes job number run (came.Asks kind term) = Waits job number run None kind term
Comes job number run came.Reached =
    IsRunOf job run × (0 < run.board.place.cycle) × (run.board.place.cycle ≤ (numbered job number).bound)
Comes job number run came.Late =
    IsRunOf job run × (0 < run.board.place.cycle) × (run.board.place.cycle ≤ (numbered job number).bound)

-- ---- which cases it is on

-- where it comes to is so for the cases that began with its bits
abbrev pub IsComeTo : Job → (number : ℕ) → (elements : List ℕ) → (bits : List Decided) → (path : Function) → Run
    → Came → Type 0
IsComeTo job number elements bits path run (came.Asks kind term) =
    IsTurnedOnRun job number elements bits path run run.board.place.cycle (Ask kind term)
IsComeTo job number elements bits path run came.Reached =
    HasMetSegment job number elements run.board.place.cycle false bits path run
IsComeTo job number elements bits path run came.Late =
    HasMetSegment job number elements run.board.place.cycle true bits path run

-- it is on its way through the cases that began with its bits
abbrev pub IsOnCourse : Job → (number : ℕ) → (elements : List ℕ) → (bits : List Decided) → (path : Function) → Run
    → Option Stepping
    → Type 0
IsOnCourse job number elements bits path run None = IsOnRun job number elements bits path run run.board.place.cycle
IsOnCourse job number elements bits path run (Some step) =
    (segment : List Decided)
    × IsOnStep job number elements run.board.place.cycle segment run.board bits run.space path step

-- and waits for the next bit of those cases
abbrev pub WaitsOnCourse : Job → (number : ℕ) → (elements : List ℕ) → (bits : List Decided) → (path : Function) → Run
    → Option Stepping → DecidedKind → (term : ℕ) → Type 0
WaitsOnCourse job number elements bits path run None kind term =
    IsTurnedOnRun job number elements bits path run run.board.place.cycle (Ask kind term)
WaitsOnCourse job number elements bits path run (Some step) kind term =
    (segment : List Decided)
    × IsTurnedOnStep job number elements run.board.place.cycle segment run.board bits run.space path step
    (Ask kind term)

-- after a turn it waits for the next bit, or has met all
abbrev pub IsTurnedOnCourse : Job → (number : ℕ) → (elements : List ℕ) → (bits : List Decided) → (path : Function) → Run
    → Option Stepping → Turn → Type 0
IsTurnedOnCourse job number elements bits path run step (Ask kind term) =
    WaitsOnCourse job number elements bits path run step kind term
IsTurnedOnCourse job number elements bits path run step Finished =
    HasMetCase job number elements run.board.place.cycle (is_none step) bits path run step

-- ---- a bit that is given

-- it waits for a bit, which may be given
abbrev pub MayBeGiven : board.Symbolic → Option Stepping → Type 0
MayBeGiven o None = ((kind : DecidedKind) × (o.asked ≡ Some kind)) × (length o.place.decided < 14)
MayBeGiven o (Some step) = is_asked step.pending ≡ true

-- the board has taken the bit that it waited for
pub record HasTaken (value : Bool) (old new : board.Symbolic) : Type 0 where
  pub new_is : (kind : DecidedKind) → old.asked ≡ Some kind → new ≡ board.decided_so old kind value
  pub symbolic : (b : BoardParts) (store : List ℕ) (t : Table) (words : List Word) (m : Memory) (kind : DecidedKind)
      (term : ℕ) → board.Asks b store t words m old kind term → board.IsSymbolic b store t words m old
      → board.IsSymbolic b store t words m new

-- the step has taken it
pub record HasStepTaken (value : Bool) (old new : Stepping) : Type 0 where
  pub new_is : new ≡ machine.given_so old value
  pub left : (d : Description) (t : Table) (words : List Word) (m : Memory) → machine.IsStepping d t words m old
      → machine.left_in d new ≡ chosen value (machine.left_in d old)
  pub decided : (d : Description) (t : Table) (words : List Word) (m : Memory) → machine.IsStepping d t words m old
      → machine.IsDecided d t words m old new value

-- whichever waited has taken it, and the other is as it was
abbrev pub IsGiven : (value : Bool) → (old new : board.Symbolic) → (before after : Option Stepping) → Type 0
IsGiven value old new None after = (after ≡ None) × HasTaken value old new
IsGiven value old new (Some step) after = (next : Stepping) × (after ≡ Some next) × (new ≡ old)
    × HasStepTaken value step next

-- a run with this board
abbrev pub with_board : Run → board.Symbolic → Run
with_board run o = record { space = run.space; board = o; registers = run.registers }

-- ---- courses

-- one that is on its way, and waits for no bit
pub record IsGoing (job : Job) (number : ℕ) (bits : List Decided) (path : Function) (course : Course) : Type 0 where
  pub elements : List ℕ
  pub cycles : course.cycles ≡ course.run.board.place.cycle
  pub ready : IsReady job number course.run course.step
  pub on : IsOnCourse job number elements bits path course.run course.step

-- one that has ended, and has met all bits of a case
pub record HasGone (job : Job) (number : ℕ) (bits : List Decided) (path : Function) (course : Course) : Type 0 where
  pub elements : List ℕ
  pub cycles : course.cycles ≡ course.run.board.place.cycle
  pub run : HasRun course.run
  pub met : HasMetCase job number elements course.cycles (is_none course.step) bits path course.run course.step

-- where it stands behind its segment: the step is there, or it waits for a bit before that, or is late
abbrev pub HaveCome : Job → (number : ℕ) → (old new : Course) → Option Turn → Type 0
HaveCome job number old new None = (step : Stepping) × (new.step ≡ Some step) × IsReady job number new.run (Some step)
    × ((elements : List ℕ) (bits : List Decided) (path : Function)
    → IsOnCourse job number elements bits path old.run old.step
    → IsOnCourse job number elements bits path new.run (Some step))
HaveCome job number old new (Some turn) = IsTurned job number new.run new.step turn
    × ((elements : List ℕ) (bits : List Decided) (path : Function)
    → IsOnCourse job number elements bits path old.run old.step
    → IsTurnedOnCourse job number elements bits path new.run new.step turn)

-- ---- one that goes on with 1

-- another course over what this one works on, with 1 for the bit that is waited for
pub record IsOtherCourse (course other : Course) : Type 0 where
  pub space : other.run.space ≡ course.run.space
  pub registers : other.run.registers ≡ course.run.registers
  pub given : IsGiven true course.run.board other.run.board course.step other.step
  pub cycles : other.cycles ≡ course.cycles
