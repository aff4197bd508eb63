-- Laws of terms, of the rows of the term table, and of joint cofactors.
use Rattle.std.specs.Prelude.{◌≡◌, ℕ, ◌<◌, ◌≤◌, ◌^◌, ◌⊎◌, [], List, length, take, Some, slice_get, Bool, true}
use Rattle.std.specs.Prelude.{if◌then◌else◌}
use Rattle.mw_base.specs.Words.{bit_of}
use Rattle.mw_term.specs.declared.op.Op.{Op}
use Rattle.mw_term.specs.Assigned.{Given}
use Rattle.mw_term.specs.Cofactors.{Variable, value_of, is_before, with_fixed, Agree, HasAtMostCofactors}
use Rattle.mw_term.specs.Cofactors.{HasMoreCofactors}
use Rattle.mw_term.specs.Functions.{Function, never, always, Triple, ite}
use Rattle.mw_term.specs.Operands.{operands, placed, AreBefore}
use Rattle.mw_term.specs.Rows.{row, bit_made}
use Rattle.mw_term.specs.Standing.{StandsIn}
use Rattle.mw_term.specs.Table.{Table, Extends, IsMap, IsTable, OpFits, Fits, IsWidth, widths_of, term_width}
use Rattle.mw_term.specs.Table.{width_over}
use Rattle.mw_term.specs.Values.{IsTermOf, Keeps, term_value, value_over}

-- what a term with an op has in a table: the op fits the terms before it and all terms; the term has the op's width,
-- which is 1 to 32 bits, and under every assignment the op's value, which has no more bits
pub record HasOp (t : Table) (term : ℕ) (op : Op) : Type 0 where
  pub before : OpFits t.map (widths_of (take term t.ops)) op
  pub fits : Fits t op
  pub is : IsTermOf t t op term
  pub width : IsWidth (term_width t term)
  pub below : (given : Given) → term_value t given term < 2 ^ term_width t term

-- each term of a table has its op's width and value, over the terms of that same table
abbrev pub TermsHaveOps : Type 0
TermsHaveOps = (t : Table) (term : ℕ) (op : Op) → IsTable t → slice_get t.ops term ≡ Some op → HasOp t term op

-- an op over the terms of a table has 1 to 32 bits, and under every assignment its value has no more
pub record IsWord (t : Table) (op : Op) : Type 0 where
  pub width : IsWidth (width_over t op)
  pub below : (given : Given) → value_over t given op < 2 ^ width_over t op

-- each op that fits a table is a word
abbrev pub OpsAreWords : Type 0
OpsAreWords = (t : Table) (op : Op) → IsTable t → Fits t op → IsWord t op

-- as many terms as ops have a width
abbrev pub TermsHaveWidths : Type 0
TermsHaveWidths = (ops : List Op) → length (widths_of ops) ≡ length ops

-- a map has no entry, or 2 to 256
abbrev pub MapsAreShort : Type 0
MapsAreShort = (map : List ℕ) → IsMap map → (map ≡ []) ⊎ ((2 ≤ length map) × (length map ≤ 256))

-- the bits of an op are these functions
abbrev pub BitsAre : Table → Op → (ℕ → Function) → Type 0
BitsAre t op bits = (given : Given) (j : ℕ) → j < width_over t op → bit_of (value_over t given op) j ≡ bits j given

-- the rows of the term table make the values of the ops, for every op that fits a table
abbrev pub RowsMakeValues : Type 0
RowsMakeValues = (t : Table) (op : Op) → IsTable t → Fits t op → BitsAre t op (bit_made t op)

-- an assignment with fixed variables has the fixed values before the place, and its own from there on
abbrev pub FixedAreBefore : Type 0
FixedAreBefore = (place v : Variable) (fixed given : Given)
    → value_of v (with_fixed place fixed given) ≡ (if is_before v place then value_of v fixed else value_of v given)

-- there are never both at most so many joint cofactors and more
abbrev pub CountsAreApart : Type 0
CountsAreApart = (t : Triple) (n : ℕ) → HasAtMostCofactors t n → ¬ HasMoreCofactors t n

-- a terminal case, in which nothing is chosen by or nothing is chosen from, has no joint cofactor
pub record TerminalCasesHaveNone : Type 0 where
  pub choice : (t : Triple) (b : Bool) → Agree t.f (λ given. b) → HasAtMostCofactors t 0
  pub branches : (t : Triple) → Agree t.g t.h → HasAtMostCofactors t 0

-- always by a variable, and else never
abbrev pub choice_by : Variable → Triple
choice_by v = ite (value_of v) always never

-- to choose by a variable alone has one joint cofactor, itself
abbrev pub VariableHasOne : Type 0
VariableHasOne = (v : Variable) → HasMoreCofactors (choice_by v) 0 × HasAtMostCofactors (choice_by v) 1

-- two joint cofactors, no less and no more
abbrev pub HasTwo : Triple → Type 0
HasTwo t = HasMoreCofactors t 1 × HasAtMostCofactors t 2

-- To choose by the later of two variables, with the earlier one as either branch, has two joint cofactors: itself, and
-- the choice between always and never that is left where the earlier one is fixed to 1.
abbrev pub LaterHasTwo : Type 0
LaterHasTwo = (first later : Variable) → is_before first later ≡ true
    → HasTwo (ite (value_of later) (value_of first) never) × HasTwo (ite (value_of later) never (value_of first))

-- what stands in a table goes on to stand there when more is written
abbrev pub StandsWithMore : Type 0
StandsWithMore = (old new t : Table) (places : List ℕ) → Extends old new → Keeps old new → StandsIn old t places
    → StandsIn new t places

-- and when the table has grown
abbrev pub StandsInMore : Type 0
StandsInMore = (l old new : Table) (places : List ℕ) → Extends old new → Keeps old new → StandsIn l old places
    → StandsIn l new places

-- where the operands of an op stand in a table, the rows of the op with these at their places are its own rows
abbrev pub RowsStand : Type 0
RowsStand = (l t : Table) (places : List ℕ) (op : Op) → StandsIn l t places → AreBefore (length places) (operands op)
    → (j : ℕ) → row t (placed places op) j ≡ row l op j
