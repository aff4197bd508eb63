-- Which term and bit is over a budget, where bits aren't made.
use Rattle.std.specs.Prelude.{◌≡◌, ℕ, List, Any, slice_get, Some}
use Rattle.mw_term.specs.declared.op.Op.{Op}
use Rattle.mw_term.specs.Cofactors.{HasMoreCofactors}
use Rattle.mw_term.specs.Functions.{Triple}
use Rattle.mw_term.specs.Operands.{IsReached}
use Rattle.mw_term.specs.Rows.{row}
use Rattle.mw_term.specs.Table.{Table}
use Rattle.mw_blast.specs.declared.fault.BlastFault.{BlastFault}
use Rattle.mw_blast.specs.declared.fault.BlastFault.TheVariants.{Over, NoMemory}

-- one of some operations has more joint cofactors than a budget
abbrev pub IsOneOver : (row : List Triple) → (budget : ℕ) → Type 0
IsOneOver row budget = Any (λ operation. HasMoreCofactors operation budget) row

-- an operation of a term at a bit is over a budget
pub record IsOver (t : Table) (term j budget : ℕ) : Type 0 where
  pub op : Op
  pub its : slice_get t.ops term ≡ Some op
  pub over : IsOneOver (row t op j) budget

-- Why the bits of a term weren't made: an operation of a term that is reached from it, at the bit that is named, is
-- over the budget; or memory ran out.
abbrev pub IsCause : Table → (term budget : ℕ) → BlastFault → Type 0
IsCause t term budget (Over named j) = IsReached t term named × IsOver t named j budget
IsCause t term budget NoMemory = Unit {0}
