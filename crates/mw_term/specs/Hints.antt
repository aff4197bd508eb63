-- What a shortcut hints of an op, and when it is right.
use Rattle.std.specs.Prelude.{◌≡◌, ◌≢◌, ℕ, List, [], ◌∷◌, Option, None, Some, slice_get}
use Rattle.mw_term.specs.declared.op.Op.{Op}
use Rattle.mw_term.specs.declared.op.Op.TheVariants.{Con}
use Rattle.mw_term.specs.declared.hint.Hint.{Hint}
use Rattle.mw_term.specs.declared.hint.Hint.TheVariants.{Nothing, Constant, Operand, Inner}
use Rattle.mw_term.specs.Assigned.{Given}
use Rattle.mw_term.specs.Operands.{operands}
use Rattle.mw_term.specs.Table.{Table, term_width, width_over}
use Rattle.mw_term.specs.Values.{term_value, value_over}

-- how many bits there are, and which number they are
pub record Meaning : Type 0 where
  pub width : ℕ
  pub value : ℕ

-- this number in so many bits
abbrev pub meaning : (width value : ℕ) → Meaning
meaning width value = record { width = width; value = value }

-- what an op over the terms of a table has under an assignment
abbrev pub meaning_over : Table → Op → Given → Meaning
meaning_over t op given = meaning (width_over t op) (value_over t given op)

-- what a term has under an assignment: no bits where there is none
abbrev pub meaning_at : Table → Given → Option ℕ → Meaning
meaning_at t given (Some term) = meaning (term_width t term) (term_value t given term)
meaning_at t given None = meaning 0 0

-- the operand of an op at a place, from 0, if it has one
abbrev pub operand_at : Op → (k : ℕ) → Option ℕ
operand_at op k = slice_get (operands op) k

-- the operand at a place of an op, if there is an op
abbrev pub inner_of : Option Op → (i : ℕ) → Option ℕ
inner_of (Some op) i = operand_at op i
inner_of None i = None

-- the operand at a place of a term's op, if there is a term
abbrev pub inner_at : Table → Option ℕ → (i : ℕ) → Option ℕ
inner_at t (Some term) i = inner_of (slice_get t.ops term) i
inner_at t None i = None

-- what a hint says that an op has: nothing but what it has, a constant, what an operand has, or an operand's operand
unfoldable pub hinted : Table → Op → Given → Hint → Meaning
hinted t op given Nothing = meaning_over t op given
hinted t op given (Constant number) = meaning (width_over t op) number
hinted t op given (Operand k) = meaning_at t given (operand_at op k)
hinted t op given (Inner k i) = meaning_at t given (inner_at t (operand_at op k) i)

-- a hint is right: the op has what it says, under every assignment
abbrev pub IsRight : Table → Op → Hint → Type 0
IsRight t op hint = (given : Given) → hinted t op given hint ≡ meaning_over t op given

-- A term of a new table is what a hint says of an op over the terms of the old one: it has the op, or the constant, or
-- is that operand.
abbrev pub IsByHint : (old new : Table) → Op → (term : ℕ) → Hint → Type 0
IsByHint old new op term Nothing = slice_get new.ops term ≡ Some op
IsByHint old new op term (Constant number) = slice_get new.ops term ≡ Some (Con number (width_over old op))
IsByHint old new op term (Operand k) = operand_at op k ≡ Some term
IsByHint old new op term (Inner k i) = inner_at old (operand_at op k) i ≡ Some term

-- the first hint of some rules that isn't `Nothing`, in their order; `Nothing` where none says more
pub data IsFirstHint {Rule : Type 0} (says : Rule → Hint → Type 0) : List Rule → Hint → Type 0 where
  none : IsFirstHint says [] Nothing
  here : {rule : Rule} {rest : List Rule} {hint : Hint} → says rule hint → hint ≢ Nothing
      → IsFirstHint says (rule ∷ rest) hint
  later : {rule : Rule} {rest : List Rule} {hint : Hint} → says rule Nothing → IsFirstHint says rest hint
      → IsFirstHint says (rule ∷ rest) hint
