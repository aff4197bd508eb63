-- A table of terms and the bits that were made of them, for written terms that stand in the table.
use Rattle.std.specs.Prelude.{◌≡◌, ◌⊎◌, ℕ, List, length, take, Some, slice_get}
use Rattle.mw_term.specs.Functions.{Function}
use Rattle.mw_term.specs.Rows.{bit}
use Rattle.mw_term.specs.Standing.{IsFirstAt, StandsIn}
use Rattle.mw_term.specs.Operands.{IsReached}
use Rattle.mw_term.specs.Table.{Extends, Table}
use Rattle.mw_term.specs.Values.{Keeps}
use Rattle.mw_dd.specs.Nodes.{Node}
use Rattle.mw_blast.specs.declared.fault.BlastFault.{BlastFault}
use Rattle.mw_blast.specs.declared.fault.BlastFault.TheVariants.{Over, NoMemory}
use Rattle.mw_blast.specs.declared.shared.Shared.{Shared}
use Rattle.mw_blast.specs.Causes.{IsOver}
use Rattle.mw_blast.specs.Kept.{IsOf}
use Rattle.mw_blast.specs.Splits.{IsPathOver}

-- the first of the written terms stand in the table, and the bits that were made are right for it and for the diagrams
pub record IsShared (w : Table) (s : Shared) (places : List ℕ) (nodes : List Node) : Type 0 where
  pub stands : StandsIn w s.terms places
  pub bits : IsOf s.terms nodes s.blast

-- the table has grown, and places were added to those there were: what stood before stands
pub record GrowsInTable (told tnew : Table) (old new : List ℕ) : Type 0 where
  pub extends : Extends told tnew
  pub keeps : Keeps told tnew
  pub places : take (length old) new ≡ old

-- an operation of a written term at a bit is over the budget, and no earlier written term stands where it does
pub record IsWrittenOver (w : Table) (places : List ℕ) (term j budget : ℕ) : Type 0 where
  pub over : IsOver w term j budget
  pub place : ℕ
  pub first : IsFirstAt places place term

-- why the bits of a written term weren't made: an operation of the one that is named, at that bit, is over the budget;
-- or memory ran out
abbrev pub IsWrittenCause : Table → (places : List ℕ) → (budget : ℕ) → BlastFault → Type 0
IsWrittenCause w places budget (Over named j) = IsWrittenOver w places named j budget
IsWrittenCause w places budget NoMemory = Unit {0}

-- where a written term is named, it stands at a term of the table that is reached from the one at which another stands
abbrev pub IsReachedFrom : Table → (places : List ℕ) → (term : ℕ) → BlastFault → Type 0
IsReachedFrom t places term (Over named j) =
    (from : ℕ) × (place : ℕ) × (slice_get places term ≡ Some from) × (slice_get places named ≡ Some place)
    × IsReached t from place
IsReachedFrom t places term NoMemory = Unit {0}

-- why a path wasn't split by a written term of one bit: the term's bit wasn't made, or a path operation is over the
-- budget; or memory ran out
abbrev pub IsWrittenSplitCause : Table → (places : List ℕ) → (path : Function) → (term budget : ℕ) → BlastFault
    → Type 0
IsWrittenSplitCause w places path term budget (Over named j) =
    IsWrittenOver w places named j budget ⊎ ((named ≡ term) × (j ≡ 0) × IsPathOver path (bit w term 0) budget)
IsWrittenSplitCause w places path term budget NoMemory = Unit {0}
