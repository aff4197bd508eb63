-- The parts of a memory read, by the terms that they make.
use Rattle.std.specs.Prelude.{◌≡◌, ℕ, ◌+◌, List, [], ◌∷◌, ◌++◌, length, map, Some, slice_get}
use Rattle.std.specs.List.{AllZip}
use Rattle.mw_term.specs.declared.op.Op.TheVariants.{Eq, Ite, Var}
use Rattle.mw_term.specs.declared.kinds.WordKind.TheVariants.{Base}
use Rattle.mw_term.specs.MemoryRead.{Held}
use Rattle.mw_term.specs.Table.{Table, Extends, IsTable}
use Rattle.mw_term.specs.Values.{Keeps}
use Rattle.mw_term.specs.declared.word.Word.{Word}
use Rattle.mw_term.specs.declared.side.Side.{Side}
use Rattle.mw_term.specs.WordList.{plain, variable}
use Rattle.mw_symmem.specs.Words.{AreOf}
use Rattle.mw_symmem.specs.Memory.{Memory, writes_of, Has}

-- a table and its words have grown by words that are no variables, with these terms
pub record Grows (told tnew : Table) (old new : List Word) (terms : List ℕ) : Type 0 where
  pub words : new ≡ old ++ map plain terms
  pub extends : Extends told tnew
  pub keeps : Keeps told tnew
  pub table : IsTable told → IsTable tnew
  pub of : AreOf told old → AreOf tnew new

-- whether an address is that of each of some reads
abbrev pub AreSame : Table → (address : ℕ) → List Held → (same : List ℕ) → Type 0
AreSame t address reads same = AllZip (λ read term. Has t (Eq address read.address) term) reads same

-- the terms that are made for some reads, from the newest to the oldest, behind a base variable, and the last value
abbrev pub IsBaseValue : Table → List Held → (same : List ℕ) → (base : ℕ) → (made : List ℕ) → (value : ℕ) → Type 0
IsBaseValue t [] [] base made value = (made ≡ []) × (value ≡ base)
IsBaseValue t (read ∷ newer) (s ∷ same) base made value =
    (before : List ℕ) × (so_far : ℕ) × (made ≡ before ++ value ∷ []) × IsBaseValue t newer same base before so_far
    × Has t (Ite s read.word so_far) value
IsBaseValue t reads same base made value = ⊥

-- the terms that are made for some writes, from the oldest to the newest, behind a value, and the last value
abbrev pub IsSideValue : Table → (address : ℕ) → List Held → (base : ℕ) → (made : List ℕ) → (value : ℕ) → Type 0
IsSideValue t address [] base [] value = value ≡ base
IsSideValue t address (write ∷ newer) base (s ∷ next ∷ made) value =
    Has t (Eq address write.address) s × Has t (Ite s write.word base) next
    × IsSideValue t address newer next made value
IsSideValue t address writes base made value = ⊥

-- What a read of a memory made: the words of its parts, the base variable, the value over the base reads, and the value
-- over the side's writes.
pub record IsMade (told tnew : Table) (old new : List Word) (m : Memory) (side : Side) (address base value : ℕ)
    : Type 0 where
  pub same : List ℕ
  pub made : List ℕ
  pub middle : ℕ
  pub over : List ℕ
  pub extends : Extends told tnew
  pub keeps : Keeps told tnew
  pub table : IsTable tnew
  pub of : AreOf tnew new
  pub words : new ≡ (old ++ map plain same) ++ variable base (Base (length m.reads)) ∷ map plain (made ++ over)
  pub op : slice_get tnew.ops base ≡ Some (Var (length (old ++ map plain same) + 1) m.word)
  pub has : Has tnew (Var (length (old ++ map plain same) + 1) m.word) base
  pub are : AreSame tnew address m.reads same
  pub base_is : IsBaseValue tnew m.reads same base made middle
  pub side_is : IsSideValue tnew address (writes_of m side) middle over value
