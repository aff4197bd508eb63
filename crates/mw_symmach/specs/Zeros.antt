-- Elements that are 0 before the first statement.
use Rattle.std.specs.Prelude.{◌≡◌, ℕ, ◌+◌, ◌<◌, List, [], ◌++◌, length, replicate, slice_index}
use Rattle.mw_term.specs.Assigned.{Given}
use Rattle.mw_term.specs.Table.{Table}
use Rattle.mw_term.specs.declared.word.Word.{Word}
use Rattle.mw_symmem.specs.Memory.{IsOfWidth}
use Rattle.mw_symmem.specs.Steps.{Grows}
use Rattle.mw_symmach.specs.Expressions.{values_at}

-- terms have the widths of the first elements
abbrev pub AreWide : Table → (widths terms : List ℕ) → Type 0
AreWide t widths terms = (i : ℕ) → i < length terms → IsOfWidth t (slice_index widths i) (slice_index terms i)

-- Behind some terms stand so many others, of the widths of the elements there and of the value 0; and constants alone
-- were added to the table.
pub record HaveZeros (told tnew : Table) (widths old new : List ℕ) (zeros : ℕ) : Type 0 where
  pub grows : (words : List Word) → Grows told tnew words words []
  pub count : length new ≡ length old + zeros
  pub wide : AreWide tnew widths new
  pub values : (given : Given) → values_at tnew given new ≡ values_at told given old ++ replicate zeros 0
