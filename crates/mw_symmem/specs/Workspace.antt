-- What a symbolic run works on: a table of terms, the words of a case, and a memory over them.
use Rattle.std.specs.Prelude.{◌≡◌, ℕ, ◌<◌, List, ◌++◌, length}
use Rattle.mw_term.specs.declared.kinds.WordKind.{WordKind}
use Rattle.mw_term.specs.Assigned.{Given}
use Rattle.mw_term.specs.MemoryRead.{Held}
use Rattle.mw_term.specs.Table.{Table, Extends, IsTable}
use Rattle.mw_term.specs.Values.{Keeps}
use Rattle.mw_term.specs.declared.side.Side.{Side}
use Rattle.mw_term.specs.declared.word.Word.{Word}
use Rattle.mw_symmem.specs.Words.{IsVariable, AreOf}
use Rattle.mw_symmem.specs.Memory.{Memory, IsMemory, IsRead, FitImage, writes_of}

-- a table that is the old one, or has grown from it
pub record IsLater (old new : Table) : Type 0 where
  pub extends : Extends old new
  pub keeps : Keeps old new
  pub table : IsTable new

-- a table, the words of its terms, and a memory over them
pub record IsWorkspace (t : Table) (words : List Word) (m : Memory) : Type 0 where
  pub table : IsTable t
  pub of : AreOf t words
  pub memory : IsMemory t words m

-- each variable among some words is of one of these kinds
abbrev pub HaveKinds : (IsKind : WordKind → Type 0) → List Word → Type 0
HaveKinds IsKind words = (place term : ℕ) (kind : WordKind) → IsVariable words place term kind → IsKind kind

-- a memory with its widths, and further base reads behind those of an older one
pub record ReadsMore (old new : Memory) : Type 0 where
  pub address : new.address ≡ old.address
  pub word : new.word ≡ old.word
  pub more : List Held
  pub reads : new.reads ≡ old.reads ++ more

-- A run went on from one workspace to another: terms, words and base reads were added behind those that there were, and
-- the variables among these words are of these kinds.
pub record GoesOn (IsKind : WordKind → Type 0) (told tnew : Table) (wold wnew : List Word)
    (mold mnew : Memory) : Type 0 where
  pub later : IsLater told tnew
  pub more : List Word
  pub words : wnew ≡ wold ++ more
  pub kinds : HaveKinds IsKind more
  pub reads : ReadsMore mold mnew
  pub workspace : IsWorkspace tnew wnew mnew

-- the writes of both sides are what they were
pub record KeepsWrites (old new : Memory) : Type 0 where
  pub each : (side : Side) → writes_of new side ≡ writes_of old side

-- ---- what stays true as a run goes on

-- An image that the base reads fit later is one that those before fitted.
abbrev pub ImagesFitBefore : Type 0
ImagesFitBefore =
    (told tnew : Table) (words : List Word) (mold mnew : Memory) (given : Given) (image : List ℕ) → IsLater told tnew
    → IsMemory told words mold → ReadsMore mold mnew → FitImage tnew given mnew.reads image
    → FitImage told given mold.reads image

-- What was read before further words and base reads is what a side's memory holds still, while nothing is written.
abbrev pub ReadsStay : Type 0
ReadsStay =
    (told tnew : Table) (words : List Word) (mold mnew : Memory) (side : Side) (address term : ℕ) → IsLater told tnew
    → IsMemory told words mold → ReadsMore mold mnew → KeepsWrites mold mnew → address < length told.ops
    → term < length told.ops → IsRead told mold side address term → IsRead tnew mnew side address term
