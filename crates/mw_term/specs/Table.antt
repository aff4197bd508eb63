-- The table of terms: their ops, their widths, and which op fits.
use Rattle.std.specs.Prelude.{◌≡◌, ℕ, ◌+◌, ◌<◌, ◌≤◌, ◌^◌, ◌⊎◌, List, [], ◌∷◌, ◌++◌, length, take, slice_index}
use Rattle.std.specs.Prelude.{slice_get, Some}
use Rattle.mw_term.specs.declared.op.Op.{Op}
use Rattle.mw_term.specs.declared.op.Op.TheVariants.{Con, Var, Not, And, Or, Xor, Sum, Cout, Ovf, Eq, Lt, Ite, Part}
use Rattle.mw_term.specs.declared.op.Op.TheVariants.{Join, Tab}

-- The ops of the terms, in the order in which they were made, and the map of the board. A term is a place in the list
-- of ops, and the operands of an op are terms before its own.
pub record Table : Type 0 where
  pub ops : List Op
  pub map : List ℕ

-- the table of these ops and this map
abbrev pub table_of : List Op → (map : List ℕ) → Table
table_of ops map = record { ops = ops; map = map }

-- ---- widths

-- how many bits an op has, over terms of these widths
unfoldable pub op_width : (widths : List ℕ) → Op → ℕ
op_width widths (Con number w) = w
op_width widths (Var word w) = w
op_width widths (Not a) = slice_index widths a
op_width widths (And a b) = slice_index widths a
op_width widths (Or a b) = slice_index widths a
op_width widths (Xor a b) = slice_index widths a
op_width widths (Sum a b c) = slice_index widths a
op_width widths (Cout a b c) = 1
op_width widths (Ovf a b c) = 1
op_width widths (Eq a b) = 1
op_width widths (Lt a b) = 1
op_width widths (Ite c a b) = slice_index widths a
op_width widths (Part a low w) = w
op_width widths (Join high low) = slice_index widths high + slice_index widths low
op_width widths (Tab i) = 12

-- the widths of terms: of those there are, and then of each op from the widths before it
abbrev pub widths_after : (widths : List ℕ) → List Op → List ℕ
widths_after widths [] = widths
widths_after widths (op ∷ rest) = widths_after (widths ++ op_width widths op ∷ []) rest

-- the widths of the terms of these ops
abbrev pub widths_of : List Op → List ℕ
widths_of ops = widths_after [] ops

-- how many bits a term has
abbrev pub term_width : Table → (term : ℕ) → ℕ
term_width t term = slice_index (widths_of t.ops) term

-- how many bits an op has, over the terms of a table
abbrev pub width_over : Table → Op → ℕ
width_over t op = op_width (widths_of t.ops) op

-- ---- which op fits

-- a width is 1 to 32 bits
abbrev pub IsWidth : ℕ → Type 0
IsWidth w = (1 ≤ w) × (w ≤ 32)

-- each of these is a width
abbrev pub AreWidths : List ℕ → Type 0
AreWidths widths = (i : ℕ) → i < length widths → IsWidth (slice_index widths i)

-- two terms of the same width
abbrev pub ArePair : (widths : List ℕ) → (a b : ℕ) → Type 0
ArePair widths a b = (a < length widths) × (b < length widths) × (slice_index widths a ≡ slice_index widths b)

-- a term of one bit
abbrev pub IsBit : (widths : List ℕ) → ℕ → Type 0
IsBit widths c = (c < length widths) × (slice_index widths c ≡ 1)

-- Whether an op fits terms of these widths: its operands are terms, as wide as the op asks for, and it has 1 to 32
-- bits. A part lies within its operand, and an index has a value for each entry of the map and no more.
abbrev pub OpFits : (map widths : List ℕ) → Op → Type 0
OpFits map widths (Con number w) = IsWidth w × (number < 2 ^ w)
OpFits map widths (Var word w) = IsWidth w
OpFits map widths (Not a) = a < length widths
OpFits map widths (And a b) = ArePair widths a b
OpFits map widths (Or a b) = ArePair widths a b
OpFits map widths (Xor a b) = ArePair widths a b
OpFits map widths (Sum a b c) = ArePair widths a b × IsBit widths c
OpFits map widths (Cout a b c) = ArePair widths a b × IsBit widths c
OpFits map widths (Ovf a b c) = ArePair widths a b × IsBit widths c
OpFits map widths (Eq a b) = ArePair widths a b
OpFits map widths (Lt a b) = ArePair widths a b
OpFits map widths (Ite c a b) = IsBit widths c × ArePair widths a b
OpFits map widths (Part a low w) = (a < length widths) × IsWidth w × (low + w ≤ slice_index widths a)
OpFits map widths (Join high low) =
    (high < length widths) × (low < length widths) × (slice_index widths high + slice_index widths low ≤ 32)
OpFits map widths (Tab i) = (i < length widths) × (length map ≡ 2 ^ slice_index widths i)

-- an op fits a table
abbrev pub Fits : Table → Op → Type 0
Fits t op = OpFits t.map (widths_of t.ops) op

-- a map has no entry, or one for each value of an index of 1 to 8 bits; each entry has 12 bits
pub record IsMap (map : List ℕ) : Type 0 where
  pub size : (map ≡ []) ⊎ ((n : ℕ) × (1 ≤ n) × (n ≤ 8) × (length map ≡ 2 ^ n))
  pub entries : (i : ℕ) → i < length map → slice_index map i < 2 ^ 12

-- in a table each op fits the terms before it
pub record IsTable (t : Table) : Type 0 where
  pub map : IsMap t.map
  pub fit : (term : ℕ) (op : Op) → slice_get t.ops term ≡ Some op → OpFits t.map (widths_of (take term t.ops)) op

-- the terms of an old table are in a new one, each with its op
pub record Extends (old new : Table) : Type 0 where
  pub map : new.map ≡ old.map
  pub more : length old.ops ≤ length new.ops
  pub ops : take (length old.ops) new.ops ≡ old.ops

-- no op stands at two terms
abbrev pub HasOpsOnce : Table → Type 0
HasOpsOnce t = (a b : ℕ) (op : Op) → slice_get t.ops a ≡ Some op → slice_get t.ops b ≡ Some op → a ≡ b

-- what the code keeps of a table in which no op stands twice: the ops again, by which they are found
pub record IsIndexed (keys : List Op) (t : Table) : Type 0 where
  pub keys_are : keys ≡ t.ops
  pub table : IsTable t
  pub once : HasOpsOnce t

-- what the code keeps: a table, and beside the ops their widths
pub record IsTableWithWidths (ops : List Op) (beside map : List ℕ) : Type 0 where
  pub table : IsTable (table_of ops map)
  pub widths : beside ≡ widths_of ops
