-- A path of a run, and the two that it is split into by a bit.
use Rattle.std.specs.Prelude.{◌≡◌, ◌⊎◌, ℕ, List, [], ◌∷◌}
use Rattle.mw_term.specs.Cofactors.{HasAtMostCofactors}
use Rattle.mw_term.specs.Functions.{Function, made}
use Rattle.mw_term.specs.PathWords.{path_zero, path_one}
use Rattle.mw_term.specs.Rows.{bit}
use Rattle.mw_term.specs.Table.{Table}
use Rattle.mw_dd.specs.Nodes.{Node}
use Rattle.mw_blast.specs.declared.split.Split.{Split}
use Rattle.mw_blast.specs.declared.fault.BlastFault.{BlastFault}
use Rattle.mw_blast.specs.declared.fault.BlastFault.TheVariants.{Over, NoMemory}
use Rattle.mw_blast.specs.Bits.{StandsFor}
use Rattle.mw_blast.specs.Causes.{IsOneOver, IsCause}

-- a path split by a bit: both operations are made, and neither is over the budget
pub record IsSplit (nodes : List Node) (path b : Function) (budget : ℕ) (split : Split) : Type 0 where
  pub zero : StandsFor nodes split.zero (made (path_zero path b))
  pub one : StandsFor nodes split.one (made (path_one path b))
  pub zero_within : HasAtMostCofactors (path_zero path b) budget
  pub one_within : HasAtMostCofactors (path_one path b) budget

-- one of the path operations of a bit is over a budget
abbrev pub IsPathOver : (path b : Function) → (budget : ℕ) → Type 0
IsPathOver path b = IsOneOver (path_zero path b ∷ path_one path b ∷ [])

-- why a path wasn't split by a term of one bit: the term's bit wasn't made, or a path operation is over the budget; or
-- memory ran out
abbrev pub IsSplitCause : Table → (path : Function) → (term budget : ℕ) → BlastFault → Type 0
IsSplitCause t path term budget (Over named j) =
    IsCause t term budget (Over named j) ⊎ ((named ≡ term) × (j ≡ 0) × IsPathOver path (bit t term 0) budget)
IsSplitCause t path term budget NoMemory = Unit {0}
