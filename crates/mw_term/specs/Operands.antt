-- The operands of an op.
use Rattle.std.specs.Prelude.{◌≡◌, ℕ, ◌<◌, List, [], ◌∷◌, ⊤, Contains, Some, slice_get, slice_index}
use Rattle.mw_term.specs.declared.op.Op.{Op}
use Rattle.mw_term.specs.declared.op.Op.TheVariants.{Con, Var, Not, And, Or, Xor, Sum, Cout, Ovf, Eq, Lt, Ite, Part}
use Rattle.mw_term.specs.declared.op.Op.TheVariants.{Join, Tab}
use Rattle.mw_term.specs.Table.{Table}

-- the operands of an op, in their order
unfoldable pub operands : Op → List ℕ
operands (Con number w) = []
operands (Var word w) = []
operands (Not a) = a ∷ []
operands (And a b) = a ∷ b ∷ []
operands (Or a b) = a ∷ b ∷ []
operands (Xor a b) = a ∷ b ∷ []
operands (Sum a b c) = a ∷ b ∷ c ∷ []
operands (Cout a b c) = a ∷ b ∷ c ∷ []
operands (Ovf a b c) = a ∷ b ∷ c ∷ []
operands (Eq a b) = a ∷ b ∷ []
operands (Lt a b) = a ∷ b ∷ []
operands (Ite c a b) = c ∷ a ∷ b ∷ []
operands (Part a low w) = a ∷ []
operands (Join high low) = high ∷ low ∷ []
operands (Tab i) = i ∷ []

-- each of some terms is before a place
abbrev pub AreBefore : (place : ℕ) → List ℕ → Type 0
AreBefore place [] = ⊤
AreBefore place (term ∷ rest) = (term < place) × AreBefore place rest

-- an op with each of its operands at a place in place of it
unfoldable pub placed : (places : List ℕ) → Op → Op
placed places (Con number w) = Con number w
placed places (Var word w) = Var word w
placed places (Not a) = Not (slice_index places a)
placed places (And a b) = And (slice_index places a) (slice_index places b)
placed places (Or a b) = Or (slice_index places a) (slice_index places b)
placed places (Xor a b) = Xor (slice_index places a) (slice_index places b)
placed places (Sum a b c) = Sum (slice_index places a) (slice_index places b) (slice_index places c)
placed places (Cout a b c) = Cout (slice_index places a) (slice_index places b) (slice_index places c)
placed places (Ovf a b c) = Ovf (slice_index places a) (slice_index places b) (slice_index places c)
placed places (Eq a b) = Eq (slice_index places a) (slice_index places b)
placed places (Lt a b) = Lt (slice_index places a) (slice_index places b)
placed places (Ite c a b) = Ite (slice_index places c) (slice_index places a) (slice_index places b)
placed places (Part a low w) = Part (slice_index places a) low w
placed places (Join high low) = Join (slice_index places high) (slice_index places low)
placed places (Tab i) = Tab (slice_index places i)

-- a term is reached from another: it is that one, or is reached from an operand of it
pub data IsReached (t : Table) : (from term : ℕ) → Type 0 where
  itself : {term : ℕ} → IsReached t term term
  through : {from operand term : ℕ} {op : Op} → slice_get t.ops from ≡ Some op → Contains (operands op) operand
      → IsReached t operand term → IsReached t from term
