-- A board on terms is, under every assignment, a run of the board: cycle after cycle it asks for the run's own decided
-- bits, and its terms have the values of the state that the run reaches and of its events.
use Rattle.std.specs.Prelude.{◌≡◌, ℕ, ◌+◌, ◌<◌, List, [], ◌∷◌, ◌++◌, length, map, Bool, ◌==◌, None, Option, Some, slice_get}
use Rattle.std.specs.Prelude.{slice_index}
use Rattle.mw_board.specs.declared.parts.BoardParts.{BoardParts}
use Rattle.mw_board.specs.Elements.{element_count}
use Rattle.mw_term.specs.declared.decided.Decided.{Decided}
use Rattle.mw_cycle.specs.Decided.{decided}
use Rattle.mw_cycle.specs.SteadyDecided.{bits_of_cycle, bits_of_cycles}
use Rattle.mw_cycle.specs.Elements.{bits_of, element, element_of}
use Rattle.mw_base.specs.Words.{num}
use Rattle.mw_cycle.specs.SteadyEnvironment.{Environment, IsEnvironment, at_start, given_at, values_of}
use Rattle.mw_cycle.specs.SteadyRun.{BoardRun, run_of}
use Rattle.mw_cycle.specs.State.{BoardState, Fits}
use Rattle.mw_term.specs.declared.decided.DecidedKind.{DecidedKind}
use Rattle.mw_cycle.specs.SteadySeries.{Series}
use Rattle.mw_cycle.specs.SteadySeries.{kind_of}
use Rattle.mw_term.specs.declared.word.Word.{Word}
use Rattle.mw_term.specs.Assigned.{Given}
use Rattle.mw_term.specs.Table.{Table}
use Rattle.mw_term.specs.Values.{term_value}
use Rattle.mw_symmem.specs.declared.turn.Turn.{Turn}
use Rattle.mw_symmem.specs.declared.turn.Turn.TheVariants.{Ask, Finished}
use Rattle.mw_term.specs.declared.side.Side.{Side}
use Rattle.mw_symmem.specs.Memory.{Memory, IsImage, IsOfWidth, FitImage, writes_of}
use Rattle.mw_symmem.specs.Words.{IsVariable}
use Rattle.mw_symmem.specs.Workspace.{GoesOn, IsLater, IsWorkspace, ReadsMore}
use Rattle.mw_symboard.specs.Kinds.{IsCycleKind}
use Rattle.mw_symboard.specs.Parts.{AreElements, AreParts, HasElements}
use Rattle.mw_cycle.specs.BoardTerms.{term_of_part}
use Rattle.mw_symboard.specs.Seen.{AreFirst, IsStateOf}
use Rattle.mw_symboard.specs.Turns.{Symbolic, AreEvents, IsSymbolic, IsTurn, clock_of, decided_so, event_of}

-- ---- runs

-- a run from a state: its environment, and the image of the memory that both sides begin with
pub record Course : Type 0 where
  pub image : List ℕ
  pub env : Environment
  pub start : BoardState

-- the run after so many cycles
abbrev pub run_in : BoardParts → List ℕ → Course → ℕ → BoardRun
run_in board store x n = run_of board store x.env x.start n

-- the decided bits of its first n cycles
abbrev pub bits_in : BoardParts → List ℕ → Course → ℕ → List Decided
bits_in board store x n = bits_of_cycles board store x.env x.start n

-- the environment of the board of a side has, under an assignment, the values of the variables of its lists that are among
-- the words
pub record IsEnvironmentOf (side : Side) (board : BoardParts) (t : Table) (words : List Word) (given : Given)
    (env : Environment) : Type 0 where
  pub within : IsEnvironment board env
  pub values : (series : Series) (n place term : ℕ) → IsVariable words place term (kind_of side series n)
      → slice_index (values_of env series) n ≡ term_value t given term

-- Under an assignment, a run fits what was read so far: its image is one that the base reads fit, and its environment
-- has the values of the variables.
pub record FitsSoFar (side : Side) (board : BoardParts) (t : Table) (words : List Word) (m : Memory) (given : Given)
    (x : Course) : Type 0 where
  pub image : IsImage m x.image
  pub fit : FitImage t given m.reads x.image
  pub outside : IsEnvironmentOf side board t words given x.env

-- Under an assignment, a run begins with these terms: it starts at a control address with so many words on the stack,
-- its elements have the values of the terms, by their numbers, its memory is the image, and where a term for its first
-- line is there already, the line has the value of that.
pub record BeginsWith (board : BoardParts) (t : Table) (given : Given) (terms : List ℕ) (at sp : ℕ) (line : Option ℕ)
    (x : Course) : Type 0 where
  pub fits : Fits board x.start
  pub address : x.start.at ≡ at
  pub depth : x.start.seq.sp ≡ sp
  pub elements : (n : ℕ) → n < element_count board → element board x.start n ≡ term_value t given (slice_index terms n)
  pub memory : x.start.memory ≡ x.image
  pub first_line : (term : ℕ) → line ≡ Some term
      → term_value t given term ≡ num (given_at x.env at_start).line

-- A symbolic board is, under an assignment, in a run of which these are the decided bits so far: those of the cycles
-- that it has finished, and of the cycle that it is in the first ones. It has come as far as the run, which has its
-- inputs, its events and its state, and the value of the line that was there before its cycle.
pub record IsInRun (board : BoardParts) (store : List ℕ) (t : Table) (m : Memory) (given : Given) (x : Course)
    (o : Symbolic) (so_far : List Decided) : Type 0 where
  pub clock : (run_in board store x o.place.cycle).clock ≡ clock_of o.place
  pub state : IsStateOf board t given m o.place x.image (run_in board store x o.place.cycle).state
  pub line : (term : ℕ) → o.place.line ≡ Some term
      → term_value t given term ≡ num (given_at x.env (clock_of o.place)).line
  pub events : (run_in board store x o.place.cycle).events ≡ map (event_of t given) o.events
  pub first : AreFirst o.place.decided (bits_of_cycle board store x.env x.start o.place.cycle)
  pub bits : so_far ≡ bits_in board store x o.place.cycle ++ o.place.decided

-- ---- the laws of runs

-- a board that stands so, of a side, and has done nothing
pub record IsBeginning (side : Side) (address sp : ℕ) (line : Option ℕ) (o : Symbolic) : Type 0 where
  pub side_is : o.place.side ≡ side
  pub at : o.place.at ≡ address
  pub sp_is : o.place.sp ≡ sp
  pub cycle : o.place.cycle ≡ 0
  pub taken : o.place.taken ≡ 0
  pub line_is : o.place.line ≡ line
  pub decided : o.place.decided ≡ []
  pub events : o.events ≡ []
  pub asked : o.asked ≡ None
  pub reading : o.reading ≡ None
  pub leaving : o.leaving ≡ None

-- A board that has done nothing is in each run that begins with its terms, while its side has written nothing, and whose
-- first line has the value of the term that was there before.
abbrev pub RunsBegin : Type 0
RunsBegin =
    (board : BoardParts) (store : List ℕ) (t : Table) (m : Memory) (given : Given) (x : Course) (terms : List ℕ)
    (side : Side) (at sp : ℕ) (line : Option ℕ) (o : Symbolic) → HasElements board terms o.place.parts
    → IsBeginning side at sp line o → writes_of m side ≡ [] → BeginsWith board t given terms at sp line x
    → IsInRun board store t m given x o []

-- A turn leaves it in its run. Where it asks, it asks for the next of the run's own decided bits, and its term has the
-- value of that bit; where the cycle is finished, the bits so far are all those of the cycles finished so far.
abbrev pub TurnsAreOfTheRun : Type 0
TurnsAreOfTheRun =
    (board : BoardParts) (store : List ℕ) (told tnew : Table) (wold wnew : List Word) (mold mnew : Memory)
    (old new : Symbolic) (turn : Turn) (given : Given) (x : Course) (bits : List Decided) → IsWorkspace told wold mold
    → IsSymbolic board store told wold mold old
    → GoesOn (IsCycleKind old.place.side old.place.cycle old.place.taken old.place.line) told tnew wold wnew mold mnew
    → IsTurn board store tnew wnew mold mnew old new turn → FitsSoFar old.place.side board tnew wnew mnew given x
    → IsInRun board store told mold given x old bits
    → IsInRun board store tnew mnew given x new bits
    × ((kind : DecidedKind) (term : ℕ) → turn ≡ Ask kind term → (n : ℕ) → new.place.cycle < n
    → slice_get (bits_in board store x n) (length bits) ≡ Some (decided kind (term_value tnew given term == 1)))
    × (turn ≡ Finished → bits_in board store x new.place.cycle ≡ bits)

-- A bit that is the next of the run's own leaves it in its run.
abbrev pub BitsAreOfTheRun : Type 0
BitsAreOfTheRun =
    (board : BoardParts) (store : List ℕ) (t : Table) (m : Memory) (o : Symbolic) (kind : DecidedKind) (value : Bool)
    (given : Given) (x : Course) (bits : List Decided) → IsInRun board store t m given x o bits
    → slice_get (bits_in board store x (o.place.cycle + 1)) (length bits) ≡ Some (decided kind value)
    → IsInRun board store t m given x (decided_so o kind value) (bits ++ decided kind value ∷ [])

-- The bits so far are the first ones of the run's own.
abbrev pub BitsAreFirst : Type 0
BitsAreFirst =
    (board : BoardParts) (store : List ℕ) (t : Table) (m : Memory) (o : Symbolic) (given : Given) (x : Course)
    (bits : List Decided) → IsInRun board store t m given x o bits → (n : ℕ) → o.place.cycle < n
    → AreFirst bits (bits_in board store x n)

-- A board stays in its run while other calls make terms, read the memory and write on the other side, and its elements and
-- events keep their terms.
abbrev pub RunsStay : Type 0
RunsStay =
    (board : BoardParts) (store : List ℕ) (told tnew : Table) (words : List Word) (mold mnew : Memory) (o : Symbolic)
    → IsWorkspace told words mold → IsLater told tnew → writes_of mnew o.place.side ≡ writes_of mold o.place.side
    → AreParts board told o.place.parts → AreEvents board told o.events
    → ((term : ℕ) → o.place.line ≡ Some term → IsOfWidth told 1 term)
    → AreParts board tnew o.place.parts
    × AreEvents board tnew o.events
    × ((given : Given) (x : Course) (bits : List Decided) → IsInRun board store told mold given x o bits
    → IsInRun board store tnew mnew given x o bits)

-- A run that fits what was read later fitted what was read before, and began with the terms that it begins with.
abbrev pub RunsFitBefore : Type 0
RunsFitBefore =
    (side : Side) (board : BoardParts) (told tnew : Table) (wold wnew more : List Word) (mold mnew : Memory)
    (given : Given) (x : Course) → IsWorkspace told wold mold → IsLater told tnew → wnew ≡ wold ++ more
    → ReadsMore mold mnew → (FitsSoFar side board tnew wnew mnew given x → FitsSoFar side board told wold mold given x)
    × ((terms : List ℕ) (at sp : ℕ) (line : Option ℕ) → AreElements board told terms
    → ((term : ℕ) → line ≡ Some term → IsOfWidth told 1 term) → BeginsWith board tnew given terms at sp line x
    → BeginsWith board told given terms at sp line x)

-- There is a term of its width for each element, by its number, and for each event; and in a run each element's term
-- has the value that the element has in the state.
abbrev pub ElementsHaveTerms : Type 0
ElementsHaveTerms =
    (board : BoardParts) (store : List ℕ) (t : Table) (words : List Word) (m : Memory) (o : Symbolic)
    → (IsSymbolic board store t words m o → AreParts board t o.place.parts × AreEvents board t o.events)
    × (AreParts board t o.place.parts → (n : ℕ) → n < element_count board
    → IsOfWidth t (bits_of board (element_of board n)) (term_of_part o.place.parts (element_of board n)))
    × ((given : Given) (x : Course) (bits : List Decided) → IsInRun board store t m given x o bits → (n : ℕ)
    → n < element_count board
    → element board (run_in board store x o.place.cycle).state n
    ≡ term_value t given (term_of_part o.place.parts (element_of board n)))
