-- The first segment of a board on terms: its cycles up to the first that ends at a boundary, and no more than its bound.
use Rattle.std.specs.Prelude.{◌≡◌, ℕ, ◌<◌, ◌≤◌, ◌⊎◌, ◌∷◌, ◌++◌, List, [], length, All, Bool, true, false}
use Rattle.std.specs.Prelude.{Option, Some, None}
use Rattle.mw_cycle.specs.Boundary.{first_boundary, is_named}
use Rattle.mw_cycle.specs.Decided.{decided}
use Rattle.mw_cycle.specs.SteadySeries.{Series, Line as LineOf, goes_by_cycle, kind_of}
use Rattle.mw_segment.specs.Programs.{Program}
use Rattle.mw_segment.specs.declared.cycles.Came.{Came}
use Rattle.mw_segment.specs.declared.cycles.Came.TheVariants as came
use Rattle.mw_space.specs.declared.space.Space.{Space}
use Rattle.mw_space.specs.Spaces.{IsSpaceOf}
use Rattle.mw_symboard.specs.declared.reading.Reading.{Reading}
use Rattle.mw_symboard.specs.Laws.{Course, IsBeginning, run_in}
use Rattle.mw_symboard.specs.Parts.{AreParts, HasElements}
use Rattle.mw_symboard.specs.Paths.{AreAll, AreOrigins, ArePassed, IsBy, IsNextBit, IsOneOf, IsPath, Origin}
use Rattle.mw_symboard.specs.Seen.{Progress}
use Rattle.mw_symboard.specs.Turns.{AreEvents, Asks, IsSymbolic, Symbolic, decided_so}
use Rattle.mw_symmem.specs.Memory.{IsOfWidth, writes_of}
use Rattle.mw_symmem.specs.Workspace.{IsLater, IsWorkspace, ReadsMore}
use Rattle.mw_term.specs.Assigned.{Given}
use Rattle.mw_term.specs.declared.decided.Decided.{Decided}
use Rattle.mw_term.specs.declared.decided.DecidedKind.{DecidedKind}
use Rattle.mw_term.specs.declared.kinds.WordKind.{WordKind}
use Rattle.mw_term.specs.declared.kinds.WordKind.TheVariants.{Base, Input, Line}
use Rattle.mw_term.specs.declared.side.Side.TheVariants.{Board}
use Rattle.mw_term.specs.declared.word.Word.{Word}
use Rattle.mw_term.specs.Functions.{Function}
use Rattle.mw_term.specs.Table.{Table}
use Rattle.mw_term.specs.WordList.{term_of}

-- ---- what a segment makes

-- The variables that the cycles of a board make from a place on: of base reads, of inputs, and of its values of the lists
-- that go by cycle, for this cycle and later ones; none for the line of this cycle, where a term of that was there before.
abbrev pub IsRunKind : Progress → WordKind → Type 0
IsRunKind from kind = ((n : ℕ) × (kind ≡ Base n)) ⊎ ((n : ℕ) × (kind ≡ Input n))
    ⊎ ((series : Series) × (n : ℕ) × (goes_by_cycle series ≡ true) × (from.cycle ≤ n)
    × (series ≡ LineOf → n ≡ from.cycle → from.line ≡ None) × (kind ≡ kind_of from.side series n))

-- there is a variable of one bit for the line of the first cycle of a board on the board's side
abbrev pub HasFirstLine : Table → List Word → Type 0
HasFirstLine t words = (term : ℕ) × (term_of words (Line 0) ≡ Some term) × IsOfWidth t 1 term

-- a board has a variable for the line of each cycle: that of the first one is there once the cycle has begun
pub record HasLines (t : Table) (words : List Word) (o : Symbolic) : Type 0 where
  pub unlined : o.place.line ≡ None
  pub begun : (reading : Reading) → o.reading ≡ Some reading → HasFirstLine t words
  pub later : 0 < o.place.cycle → HasFirstLine t words

-- a board in its segment, within a cycle or between two, with what it works on
pub record IsRunning (program : Program) (space : Space) (o : Symbolic) : Type 0 where
  pub space_of : IsSpaceOf program.board space.terms space.words space.memory
  pub symbolic : IsSymbolic program.board program.store space.terms space.words space.memory o
  pub taken : o.place.taken ≤ o.place.cycle
  pub lines : o.place.side ≡ Board → HasLines space.terms space.words o

-- ---- where it comes to

-- it waits for a bit within a cycle of the segment; or the cycle that ended last ended at a boundary; or as many cycles
-- as its bound have ended without one
abbrev pub HasCome : Program → (bound : ℕ) → Space → Symbolic → Came → Type 0
HasCome program bound space o (came.Asks kind term) =
    Asks program.board program.store space.terms space.words space.memory o kind term × (o.place.cycle < bound)
HasCome program bound space o came.Reached =
    (o.asked ≡ None) × (o.reading ≡ None) × (0 < o.place.cycle) × (o.place.cycle ≤ bound)
    × (is_named program.addresses o.place.at ≡ true)
HasCome program bound space o came.Late = (o.asked ≡ None) × (o.reading ≡ None) × (o.place.cycle ≡ bound)

-- ---- on the runs that take a path

-- A path of decided bits within the segment: where it is true, the run has passed no boundary with the cycles that are
-- finished.
pub record IsOnSegment (program : Program) (space : Space) (b : Origin) (o : Symbolic) (bits : List Decided)
    (path : Function) : Type 0 where
  pub path_is : IsPath program.board program.store space.terms space.words space.memory b o bits path
  pub passed : List ℕ
  pub at_them : ArePassed program.board program.store space.terms space.words space.memory b passed path
  pub count : length passed ≡ o.place.cycle
  pub none : All (λ at. is_named program.addresses at ≡ false) passed

-- after how many cycles the first segment of a run ends at a boundary; none where it is late
abbrev pub first_end : Program → (bound : ℕ) → Course → Option ℕ
first_end program bound x =
    first_boundary program.addresses (λ n. (run_in program.board program.store x n).state.at) bound

-- A path of the decided bits of a whole segment: where it is true, the run's first segment ends so, and the bits are all
-- those of its cycles.
pub record HasEnded (program : Program) (bound : ℕ) (space : Space) (b : Origin) (o : Symbolic) (bits : List Decided)
    (path : Function) (end : Option ℕ) : Type 0 where
  pub path_is : IsPath program.board program.store space.terms space.words space.memory b o bits path
  pub all : AreAll program.board program.store space.terms space.words space.memory b o bits path
  pub ends : (given : Given) (x : Course) → IsOneOf program.board space.terms space.words space.memory b given x
      → path given ≡ true → first_end program bound x ≡ end

-- where it comes to is so on its path
abbrev pub ComesOnPath : Program → (bound : ℕ) → Space → Origin → Symbolic → (bits : List Decided) → (path : Function)
    → Came → Type 0
ComesOnPath program bound space b o bits path (came.Asks kind term) =
    IsOnSegment program space b o bits path
    × IsNextBit program.board program.store space.terms space.words space.memory b o bits path kind term
ComesOnPath program bound space b o bits path came.Reached =
    HasEnded program bound space b o bits path (Some o.place.cycle)
ComesOnPath program bound space b o bits path came.Late = HasEnded program bound space b o bits path None

-- ---- the laws of paths through a segment

-- What is true always is a path of no bit through the segment of a board that has done nothing.
abbrev pub SegmentsBeginOnPaths : Type 0
SegmentsBeginOnPaths = (program : Program) (space : Space) (b : Origin) (o : Symbolic) (path : Function)
    → AreOrigins program.board space.terms b → HasElements program.board b.terms o.place.parts
    → IsBeginning b.side b.at b.sp b.line o → writes_of space.memory b.side ≡ []
    → ((given : Given) → path given ≡ true) → IsOnSegment program space b o [] path

-- A path by the bit that is asked for is a path through the segment still.
abbrev pub SegmentsTakeBits : Type 0
SegmentsTakeBits = (program : Program) (space : Space) (b : Origin) (o : Symbolic) (bits : List Decided)
    (kind : DecidedKind) (term : ℕ) (value : Bool) (path next : Function) → IsOnSegment program space b o bits path
    → IsNextBit program.board program.store space.terms space.words space.memory b o bits path kind term
    → IsBy space.terms term value path next
    → IsOnSegment program space b (decided_so o kind value) (bits ++ decided kind value ∷ []) next

-- A segment that has ended stays so, while other calls make terms, read the memory and write on the other side.
abbrev pub EndsStay : Type 0
EndsStay = (program : Program) (bound : ℕ) (old new : Space) (more : List Word) (b : Origin) (o : Symbolic)
    (bits : List Decided) (path : Function) (end : Option ℕ)
    → IsWorkspace old.terms old.words old.memory → IsLater old.terms new.terms → new.words ≡ old.words ++ more
    → ReadsMore old.memory new.memory → writes_of new.memory b.side ≡ writes_of old.memory b.side
    → AreParts program.board old.terms o.place.parts → AreEvents program.board old.terms o.events
    → HasEnded program bound old b o bits path end → HasEnded program bound new b o bits path end
