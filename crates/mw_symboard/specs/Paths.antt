-- A path of decided bits through the cycles of a board on terms: where it is true, the bits are the run's own.
use Rattle.std.specs.Prelude.{◌≡◌, ℕ, ◌+◌, ◌<◌, List, [], ◌∷◌, ◌++◌, length, Bool, true, false, ◌==◌, Option, Some, slice_get}
use Rattle.mw_board.specs.declared.parts.BoardParts.{BoardParts}
use Rattle.mw_term.specs.declared.decided.Decided.{Decided}
use Rattle.mw_cycle.specs.Decided.{decided}
use Rattle.mw_term.specs.declared.decided.DecidedKind.{DecidedKind}
use Rattle.mw_term.specs.declared.word.Word.{Word}
use Rattle.mw_term.specs.Assigned.{Given}
use Rattle.mw_term.specs.Cofactors.{Agree}
use Rattle.mw_term.specs.Functions.{Function, ite, made, never}
use Rattle.mw_term.specs.Rows.{bit}
use Rattle.mw_term.specs.Table.{Table, IsTable}
use Rattle.mw_term.specs.Values.{term_value}
use Rattle.mw_symmem.specs.declared.turn.Turn.{Turn}
use Rattle.mw_symmem.specs.declared.turn.Turn.TheVariants.{Ask, Finished}
use Rattle.mw_term.specs.declared.side.Side.{Side}
use Rattle.mw_symmem.specs.Memory.{Memory, IsOfWidth, writes_of}
use Rattle.mw_symmem.specs.Workspace.{GoesOn, IsLater, IsWorkspace, ReadsMore}
use Rattle.mw_symboard.specs.Kinds.{IsCycleKind}
use Rattle.mw_symboard.specs.Laws.{BeginsWith, Course, FitsSoFar, IsBeginning, IsInRun, bits_in, run_in}
use Rattle.mw_symboard.specs.Parts.{AreElements, AreParts, HasElements}
use Rattle.mw_symboard.specs.Seen.{AreFirst}
use Rattle.mw_symboard.specs.Turns.{Symbolic, AreEvents, IsSymbolic, IsTurn, decided_so}

-- what a run begins with: its side of the memory, a term for each element, by its number, a control address, how many words
-- the stack has, and a term for its first line, where that is there already
pub record Origin : Type 0 where
  pub side : Side
  pub terms : List ℕ
  pub at : ℕ
  pub sp : ℕ
  pub line : Option ℕ

-- its terms have their widths
pub record AreOrigins (board : BoardParts) (t : Table) (b : Origin) : Type 0 where
  pub elements : AreElements board t b.terms
  pub line : (term : ℕ) → b.line ≡ Some term → IsOfWidth t 1 term

-- under an assignment, a run fits what was read so far, and begins as this says
pub record IsOneOf (board : BoardParts) (t : Table) (words : List Word) (m : Memory) (b : Origin) (given : Given)
    (x : Course) : Type 0 where
  pub fits : FitsSoFar b.side board t words m given x
  pub begins : BeginsWith board t given b.terms b.at b.sp b.line x

-- A path of decided bits, of which these were decided so far: of each run that begins as this says, under each
-- assignment, it is true exactly where the bits are the first ones of the run's own; and then the board is in that run.
pub record IsPath (board : BoardParts) (store : List ℕ) (t : Table) (words : List Word) (m : Memory) (b : Origin)
    (o : Symbolic) (bits : List Decided) (path : Function) : Type 0 where
  pub origin : AreOrigins board t b
  pub side : o.place.side ≡ b.side
  pub line : (term : ℕ) → o.place.line ≡ Some term → IsOfWidth t 1 term
  pub in_run : (given : Given) (x : Course) → IsOneOf board t words m b given x → path given ≡ true
      → IsInRun board store t m given x o bits
  pub only : (given : Given) (x : Course) → IsOneOf board t words m b given x → (n : ℕ) → o.place.cycle < n
      → AreFirst bits (bits_in board store x n) → path given ≡ true

-- where the path is true, the next of the run's own bits is of this kind and has the value of this term
abbrev pub IsNextBit : BoardParts → List ℕ → Table → List Word → Memory → Origin → Symbolic → List Decided
    → (path : Function) → DecidedKind → (term : ℕ) → Type 0
IsNextBit board store t words m b o bits path kind term =
    (given : Given) (x : Course) → IsOneOf board t words m b given x → path given ≡ true → (n : ℕ) → o.place.cycle < n
    → slice_get (bits_in board store x n) (length bits) ≡ Some (decided kind (term_value t given term == 1))

-- where the path is true, the bits so far are all those of the cycles that are finished
abbrev pub AreAll : BoardParts → List ℕ → Table → List Word → Memory → Origin → Symbolic → List Decided
    → (path : Function) → Type 0
AreAll board store t words m b o bits path =
    (given : Given) (x : Course) → IsOneOf board t words m b given x → path given ≡ true
    → bits_in board store x o.place.cycle ≡ bits

-- where the path is true, the run is at these control addresses after its first cycles, one after each
abbrev pub ArePassed : BoardParts → List ℕ → Table → List Word → Memory → Origin → (addresses : List ℕ)
    → (path : Function) → Type 0
ArePassed board store t words m b addresses path =
    (given : Given) (x : Course) → IsOneOf board t words m b given x → path given ≡ true → (k at : ℕ)
    → slice_get addresses k ≡ Some at → (run_in board store x (k + 1)).state.at ≡ at

-- a path by a bit: true where the path is, and the term of the bit has this value
pub record IsBy (t : Table) (term : ℕ) (value : Bool) (path next : Function) : Type 0 where
  pub so : (given : Given) → next given ≡ true → (path given ≡ true) × ((term_value t given term == 1) ≡ value)
  pub only : (given : Given) → path given ≡ true → (term_value t given term == 1) ≡ value → next given ≡ true

-- ---- the laws of paths

-- What is true always is a path of no bit, of a board that has done nothing.
abbrev pub PathsBegin : Type 0
PathsBegin =
    (board : BoardParts) (store : List ℕ) (t : Table) (words : List Word) (m : Memory) (b : Origin) (o : Symbolic)
    (path : Function) → AreOrigins board t b → HasElements board b.terms o.place.parts
    → IsBeginning b.side b.at b.sp b.line o → writes_of m b.side ≡ []
    → ((given : Given) → path given ≡ true) → IsPath board store t words m b o [] path

-- A turn keeps the path. Where it asks for a bit, that is the next of the run's own; where the cycle is finished, the
-- bits so far are all those of the cycles finished so far.
abbrev pub PathsGoOn : Type 0
PathsGoOn =
    (board : BoardParts) (store : List ℕ) (told tnew : Table) (wold wnew : List Word) (mold mnew : Memory)
    (old new : Symbolic) (turn : Turn) (b : Origin) (bits : List Decided) (path : Function) → IsWorkspace told wold mold
    → IsSymbolic board store told wold mold old
    → GoesOn (IsCycleKind old.place.side old.place.cycle old.place.taken old.place.line) told tnew wold wnew mold mnew
    → IsTurn board store tnew wnew mold mnew old new turn → IsPath board store told wold mold b old bits path
    → IsPath board store tnew wnew mnew b new bits path
    × ((kind : DecidedKind) (term : ℕ) → turn ≡ Ask kind term
    → IsNextBit board store tnew wnew mnew b new bits path kind term)
    × (turn ≡ Finished → AreAll board store tnew wnew mnew b new bits path)

-- A path by the bit that is asked for is a path of one bit more.
abbrev pub PathsTakeBits : Type 0
PathsTakeBits =
    (board : BoardParts) (store : List ℕ) (t : Table) (words : List Word) (m : Memory) (b : Origin) (o : Symbolic)
    (bits : List Decided) (kind : DecidedKind) (term : ℕ) (value : Bool) (path next : Function)
    → IsPath board store t words m b o bits path → IsNextBit board store t words m b o bits path kind term
    → IsBy t term value path next
    → IsPath board store t words m b (decided_so o kind value) (bits ++ decided kind value ∷ []) next

-- A path that a term of one bit splits in two is, on either side, the path by that value of the bit.
abbrev pub SplitsAreBy : Type 0
SplitsAreBy =
    (t : Table) (term : ℕ) (path next : Function) → IsTable t → IsOfWidth t 1 term
    → (Agree next (made (ite (bit t term 0) path never)) → IsBy t term true path next)
    × (Agree next (made (ite (bit t term 0) never path)) → IsBy t term false path next)

-- Other calls keep a path: while they make terms, read the memory and write on the other side.
abbrev pub PathsStay : Type 0
PathsStay =
    (board : BoardParts) (store : List ℕ) (told tnew : Table) (wold wnew more : List Word) (mold mnew : Memory)
    (b : Origin) (o : Symbolic) (bits : List Decided) (path : Function) → IsWorkspace told wold mold → IsLater told tnew
    → wnew ≡ wold ++ more → ReadsMore mold mnew → writes_of mnew b.side ≡ writes_of mold b.side
    → AreParts board told o.place.parts → AreEvents board told o.events → IsPath board store told wold mold b o bits path
    → IsPath board store tnew wnew mnew b o bits path

-- The control addresses after the first cycles stay, through turns and other calls, on a path and on each by a bit of
-- it.
abbrev pub PassedStay : Type 0
PassedStay =
    (board : BoardParts) (store : List ℕ) (told tnew : Table) (wold wnew more : List Word) (mold mnew : Memory)
    (b : Origin) (addresses : List ℕ) (path next : Function) → IsWorkspace told wold mold → IsLater told tnew
    → wnew ≡ wold ++ more → ReadsMore mold mnew → AreOrigins board told b
    → ((given : Given) → next given ≡ true → path given ≡ true)
    → ArePassed board store told wold mold b addresses path → ArePassed board store tnew wnew mnew b addresses next

-- After one cycle more it is at the board's control address.
abbrev pub PassedGoOn : Type 0
PassedGoOn =
    (board : BoardParts) (store : List ℕ) (t : Table) (words : List Word) (m : Memory) (b : Origin) (o : Symbolic)
    (bits : List Decided) (addresses : List ℕ) (path : Function) → IsPath board store t words m b o bits path
    → o.place.cycle ≡ length addresses + 1 → ArePassed board store t words m b addresses path
    → ArePassed board store t words m b (addresses ++ o.place.at ∷ []) path
