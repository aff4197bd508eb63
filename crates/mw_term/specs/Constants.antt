-- Which terms are constants, and which ops are over constants alone.
use Rattle.std.specs.Prelude.{ℕ, List, [], ◌∷◌, ◌≢◌, ⊤, Option, None, Some, IsSome, slice_get}
use Rattle.mw_term.specs.declared.op.Op.{Op}
use Rattle.mw_term.specs.declared.op.Op.TheVariants.{Con}
use Rattle.mw_term.specs.Operands.{operands}
use Rattle.mw_term.specs.Table.{Table}

-- the number of an op that is a constant
abbrev pub number_of : Option Op → Option ℕ
number_of (Some (Con number width)) = Some number
number_of op = None

-- the number of a term that is a constant
abbrev pub constant_at : Table → (term : ℕ) → Option ℕ
constant_at t term = number_of (slice_get t.ops term)

-- each of some terms is a constant
abbrev pub AreConstants : Table → (terms : List ℕ) → Type 0
AreConstants t [] = ⊤
AreConstants t (term ∷ rest) = IsSome (constant_at t term) × AreConstants t rest

-- an op has operands, each of which is a constant
abbrev pub IsOverConstants : Table → Op → Type 0
IsOverConstants t op = (operands op ≢ []) × AreConstants t (operands op)
