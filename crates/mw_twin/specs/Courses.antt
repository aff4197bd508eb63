-- The course of a twin case: through the old program's segment, and behind that, where it has ended at a boundary, through
-- the new one's.
use Rattle.std.specs.Prelude.{◌≡◌, ℕ, ◌<◌, ◌≤◌, ◌∷◌, ◌++◌, List, [], length, Bool, true, false, Option, Some, None}
use Rattle.mw_board.specs.declared.parts.BoardParts.{BoardParts}
use Rattle.mw_board.specs.Elements.{element_count}
use Rattle.mw_cycle.specs.Decided.{decided}
use Rattle.mw_revise.specs.declared.programs.Side.TheVariants.{New, Old}
use Rattle.mw_segment.specs.Segments.{HasCome}
use Rattle.mw_segment.specs.declared.cycles.Came.{Came}
use Rattle.mw_segment.specs.declared.cycles.Came.TheVariants.{Asks, Late, Reached}
use Rattle.mw_symboard.specs.Turns.{Asks as AsksOn, IsSymbolic, Symbolic, decided_so}
use Rattle.mw_symmem.specs.Memory.{Memory}
use Rattle.mw_symmem.specs.declared.turn.Turn.{Turn}
use Rattle.mw_symmem.specs.declared.turn.Turn.TheVariants.{Ask, Finished}
use Rattle.mw_term.specs.declared.decided.Decided.{Decided}
use Rattle.mw_term.specs.declared.decided.DecidedKind.{DecidedKind}
use Rattle.mw_term.specs.declared.kinds.WordKind.TheVariants.{Probe}
use Rattle.mw_term.specs.declared.word.Word.{Word}
use Rattle.mw_term.specs.Functions.{Function}
use Rattle.mw_term.specs.Table.{Table}
use Rattle.mw_term.specs.WordList.{term_of}
use Rattle.mw_course.specs.Courses.{HasTaken}
use Rattle.mw_twin.specs.declared.course.Course.{Course}
use Rattle.mw_twin.specs.Origins.{Ground, ground_in}
use Rattle.mw_twin.specs.OnTwins.{AsksInNew, AsksInOld, Behind, HasMetNew, IsLateOld, IsOnNew, IsOnOld}
use Rattle.mw_twin.specs.Programs.{program_on}
use Rattle.mw_twin.specs.Ready.{IsInNew, IsInOld}
use Rattle.mw_twin.specs.RevisedBlocks.{RevisedBlock}
use Rattle.mw_twin.specs.TwinPaths.{HasDecided}

-- what it works on, with the terms of the elements of both boards
abbrev pub ground_of : Course → Ground
ground_of course = ground_in course.space course.old_elements.items course.new_elements.items

-- there is a term for each element of both boards
pub record HasElementTerms (s : RevisedBlock) (course : Course) : Type 0 where
  pub old_count : length course.old_elements.items ≡ element_count s.revision.board
  pub new_count : length course.new_elements.items ≡ element_count s.revision.board

-- these terms are the same
pub record KeepsElements (old new : Course) : Type 0 where
  pub old_elements : new.old_elements.items ≡ old.old_elements.items
  pub new_elements : new.new_elements.items ≡ old.new_elements.items

-- ---- where it stands

-- it waits for no bit: it is in a cycle of the old segment, or of the new one
abbrev pub IsReadyIn : RevisedBlock → Course → Option Symbolic → Type 0
IsReadyIn s course None = IsInOld s course.space course.old_board course.new_elements.items
    × (course.old_board.asked ≡ None) × (course.old_board.place.cycle < s.block.bound)
IsReadyIn s course (Some after) = IsInNew s course.space course.old_board after
    × (after.asked ≡ None) × (after.place.cycle < s.block.bound)

-- it waits for no bit, in whichever segment it is
abbrev pub IsReady : RevisedBlock → Course → Type 0
IsReady s course = IsReadyIn s course course.new_board

-- it waits for a bit of this kind, by this term
abbrev pub WaitsIn : RevisedBlock → Course → Option Symbolic → DecidedKind → (term : ℕ) → Type 0
WaitsIn s course None kind term = IsInOld s course.space course.old_board course.new_elements.items
    × HasCome (program_on Old s.revision) s.block.bound course.space course.old_board (Asks kind term)
WaitsIn s course (Some after) kind term = IsInNew s course.space course.old_board after
    × HasCome (program_on New s.revision) s.block.bound course.space after (Asks kind term)

-- how a segment has ended that is late, or isn't
abbrev pub came_of : (late : Bool) → Came
came_of true = Late
came_of false = Reached

-- where it has ended: in the old segment, which is late, or in the new one
abbrev pub HasEndedIn : RevisedBlock → Course → Option Symbolic → Type 0
HasEndedIn s course None = IsInOld s course.space course.old_board course.new_elements.items
    × HasCome (program_on Old s.revision) s.block.bound course.space course.old_board Late × (course.late ≡ true)
HasEndedIn s course (Some after) = IsInNew s course.space course.old_board after
    × HasCome (program_on New s.revision) s.block.bound course.space after (came_of course.late)

-- it has ended: there were so few base reads that a comparison may make more, and there is no probe yet
pub record HasRun (s : RevisedBlock) (course : Course) : Type 0 where
  pub stands : HasEndedIn s course course.new_board
  pub few : length course.space.memory.reads ≤ 1024
  pub fresh : term_of course.space.words Probe ≡ None

-- after a turn it waits for a bit, or has ended
abbrev pub IsTurned : RevisedBlock → Course → Turn → Type 0
IsTurned s course (Ask kind term) = WaitsIn s course course.new_board kind term
IsTurned s course Finished = HasRun s course

-- ---- which cases it is on

-- it is on its way through the cases that begin with these bits
abbrev pub IsOnCourse : RevisedBlock → (bits : List Decided) → (path : Function) → Course
    → Option Symbolic → Type 0
IsOnCourse s bits path course None =
    IsOnOld s.revision s.block course.space course.old_elements.items course.new_elements.items course.old_board bits
    path
IsOnCourse s bits path course (Some after) = (b : Behind) × (b.board ≡ course.old_board)
    × IsOnNew s.revision s.block course.space course.old_elements.items course.new_elements.items b after bits path

-- and waits for the next bit of those cases
abbrev pub WaitsOnCourse : RevisedBlock → (bits : List Decided) → (path : Function) → Course
    → Option Symbolic → DecidedKind → (term : ℕ) → Type 0
WaitsOnCourse s bits path course None kind term =
    AsksInOld s.revision s.block course.space course.old_elements.items course.new_elements.items course.old_board
    bits path kind term
WaitsOnCourse s bits path course (Some after) kind term = (b : Behind) × (b.board ≡ course.old_board)
    × AsksInNew s.revision s.block course.space course.old_elements.items course.new_elements.items b after bits path
    kind term

-- after how many cycles a board is at the boundary that ends its segment; none where it is late
abbrev pub end_of : (late : Bool) → Symbolic → Option ℕ
end_of true o = None
end_of false o = Some o.place.cycle

-- it has met all bits of those cases: the old segment is late, or the new one has ended
abbrev pub HasMetCase : RevisedBlock → (bits : List Decided) → (path : Function) → Course
    → Option Symbolic → Type 0
HasMetCase s bits path course None =
    IsLateOld s.revision s.block course.space course.old_elements.items course.new_elements.items course.old_board bits
    path
HasMetCase s bits path course (Some after) = (b : Behind) × (b.board ≡ course.old_board)
    × HasMetNew s.revision s.block course.space course.old_elements.items course.new_elements.items b after bits path
    (end_of course.late after)

-- after a turn it waits for the next bit, or has met all
abbrev pub IsTurnedOnCourse : RevisedBlock → (bits : List Decided) → (path : Function) → Course → Turn
    → Type 0
IsTurnedOnCourse s bits path course (Ask kind term) =
    WaitsOnCourse s bits path course course.new_board kind term
IsTurnedOnCourse s bits path course Finished = HasMetCase s bits path course course.new_board

-- a turn: a course that was on its way through the cases on a path waits for their next bit, or has met all
abbrev pub GoesOnCourse : RevisedBlock → (old new : Course) → Turn → Type 0
GoesOnCourse s old new turn = (bits : List Decided) (path : Function)
    → IsOnCourse s bits path old old.new_board → IsTurnedOnCourse s bits path new turn

-- behind the old segment: the new one is there, or the course waits for a bit before that, or is late
abbrev pub HaveCome : RevisedBlock → (old new : Course) → Option Turn → Type 0
HaveCome s old new None = (after : Symbolic) × (new.new_board ≡ Some after) × IsReadyIn s new (Some after)
    × ((bits : List Decided) (path : Function) → IsOnCourse s bits path old old.new_board
    → IsOnCourse s bits path new (Some after))
HaveCome s old new (Some turn) = IsTurned s new turn × GoesOnCourse s old new turn

-- ---- a bit that is given

-- the board of the segment that it is in waits for a bit, which may be given
abbrev pub MayBeGiven : (before : Symbolic) → (after : Option Symbolic) → Type 0
MayBeGiven before None = ((kind : DecidedKind) × (before.asked ≡ Some kind)) × (length before.place.decided < 14)
MayBeGiven before (Some o) = ((kind : DecidedKind) × (o.asked ≡ Some kind)) × (length o.place.decided < 14)

-- whichever waited has taken it, and the other is as it was
abbrev pub IsGiven : (value : Bool) → (old new : Symbolic) → (before after : Option Symbolic) → Type 0
IsGiven value old new None after = (after ≡ None) × HasTaken value old new
IsGiven value old new (Some o) after =
    (next : Symbolic) × (after ≡ Some next) × (new ≡ old) × HasTaken value o next

-- another course over what this one works on, with this value for the bit that is waited for
pub record IsGivenTo (value : Bool) (course other : Course) : Type 0 where
  pub space : other.space ≡ course.space
  pub old_elements : other.old_elements.items ≡ course.old_elements.items
  pub new_elements : other.new_elements.items ≡ course.new_elements.items
  pub given : IsGiven value course.old_board other.old_board course.new_board other.new_board
  pub late : other.late ≡ course.late

-- ---- the law of bits

-- a bit was decided by its term: the course is on its way with one more, along the path by it
abbrev pub HasDecidedOn : RevisedBlock → (bits : List Decided) → (path next : Function) → Course
    → DecidedKind → (term : ℕ) → (value : Bool) → Type 0
HasDecidedOn s bits path next course kind term value =
    HasDecided s.revision s.block (ground_of course) bits path next kind term value

-- A course that waits for a bit is ready once it is given.
abbrev pub BitsMakeReady : Type 0
BitsMakeReady = (s : RevisedBlock) (old new : Course) (kind : DecidedKind) (term : ℕ) (value : Bool)
    → WaitsIn s old old.new_board kind term → IsGivenTo value old new → IsReady s new

-- And it is on its way with one bit more, along the path by it, through the cases that begin with its bits.
abbrev pub BitsGoOnCourse : Type 0
BitsGoOnCourse = (s : RevisedBlock) (bits : List Decided) (path next : Function) (old new : Course)
    (kind : DecidedKind) (term : ℕ) (value : Bool) → WaitsIn s old old.new_board kind term
    → WaitsOnCourse s bits path old old.new_board kind term → IsGivenTo value old new
    → HasDecidedOn s bits path next old kind term value
    → IsOnCourse s (bits ++ decided kind value ∷ []) next new new.new_board
