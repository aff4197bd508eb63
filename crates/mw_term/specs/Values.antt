-- The value of a term under an assignment.
use Rattle.std.specs.Prelude.{◌≡◌, ℕ, ◌+◌, ◌-◌, ◌%◌, ◌^◌, ◌<◌, List, [], ◌∷◌, ◌++◌, length, slice_index, ◌==◌, nat_lt}
use Rattle.std.specs.Prelude.{if◌then◌else◌, bit_and, bit_or, bit_xor}
use Rattle.mw_base.specs.Carries.{carry_at}
use Rattle.mw_base.specs.Words as words
use Rattle.mw_term.specs.declared.op.Op.{Op}
use Rattle.mw_term.specs.declared.op.Op.TheVariants.{Con, Var, Not, And, Or, Xor, Sum, Cout, Ovf, Eq, Lt, Ite, Part}
use Rattle.mw_term.specs.declared.op.Op.TheVariants.{Join, Tab}
use Rattle.mw_term.specs.Assigned.{Given}
use Rattle.mw_term.specs.Table.{Table, AreWidths, op_width, widths_of, term_width, width_over}

-- What an op stands for, over terms of these widths and values: a constant is its number, and a variable that of its
-- word, cut to its width. Sums are modulo 2 ^ width; `Cout` is the carry out of the top bit, and `Ovf` is 1 where the
-- carry into the top bit differs from it. Words are compared as numbers. `Ite` is a where c is 1, and else b. `Tab`
-- is an entry of the map.
unfoldable pub op_value : (map : List ℕ) → Given → (widths values : List ℕ) → Op → ℕ
op_value map given widths values (Con number w) = number
op_value map given widths values (Var word w) = given word % 2 ^ w
op_value map given widths values (Not a) = words.complement (slice_index widths a) (slice_index values a)
op_value map given widths values (And a b) = bit_and (slice_index values a) (slice_index values b)
op_value map given widths values (Or a b) = bit_or (slice_index values a) (slice_index values b)
op_value map given widths values (Xor a b) = bit_xor (slice_index values a) (slice_index values b)
op_value map given widths values (Sum a b c) =
    (slice_index values a + slice_index values b + slice_index values c) % 2 ^ slice_index widths a
op_value map given widths values (Cout a b c) =
    words.num (carry_at (slice_index values a) (slice_index values b) (slice_index values c == 1)
    (slice_index widths a))
op_value map given widths values (Ovf a b c) =
    let carry = carry_at (slice_index values a) (slice_index values b) (slice_index values c == 1) in
    words.num (words.differ (carry (slice_index widths a - 1)) (carry (slice_index widths a)))
op_value map given widths values (Eq a b) = words.num (slice_index values a == slice_index values b)
op_value map given widths values (Lt a b) = words.num (nat_lt (slice_index values a) (slice_index values b))
op_value map given widths values (Ite c a b) =
    if slice_index values c == 1 then slice_index values a else slice_index values b
op_value map given widths values (Part a low w) = words.part low w (slice_index values a)
op_value map given widths values (Join high low) =
    words.join (slice_index widths low) (slice_index values high) (slice_index values low)
op_value map given widths values (Tab i) = slice_index map (slice_index values i)

-- the values of terms: of those there are, with their widths, and then of each op from the widths and values before it
abbrev pub values_after : (map : List ℕ) → Given → (widths values : List ℕ) → List Op → List ℕ
values_after map given widths values [] = values
values_after map given widths values (op ∷ rest) =
    values_after map given (widths ++ op_width widths op ∷ []) (values ++ op_value map given widths values op ∷ []) rest

-- the values of the terms of these ops
abbrev pub values_of : (map : List ℕ) → Given → List Op → List ℕ
values_of map given ops = values_after map given [] [] ops

-- the value of a term of a table
abbrev pub term_value : Table → Given → (term : ℕ) → ℕ
term_value t given term = slice_index (values_of t.map given t.ops) term

-- the value of an op over the terms of a table
abbrev pub value_over : Table → Given → Op → ℕ
value_over t given op = op_value t.map given (widths_of t.ops) (values_of t.map given t.ops) op

-- terms with their widths, each 1 to 32 bits, and with values, each a word of its width
pub record AreWords (widths values : List ℕ) : Type 0 where
  pub range : AreWidths widths
  pub count : length values ≡ length widths
  pub words : (i : ℕ) → i < length widths → slice_index values i < 2 ^ slice_index widths i

-- a term has an op's width and, under every assignment, its value, where the op is over the terms of an old table
pub record IsTermOf (old new : Table) (op : Op) (term : ℕ) : Type 0 where
  pub there : term < length new.ops
  pub width : term_width new term ≡ width_over old op
  pub value : (given : Given) → term_value new given term ≡ value_over old given op

-- earlier terms have the widths and values that they had
pub record Keeps (old new : Table) : Type 0 where
  pub widths : (term : ℕ) → term < length old.ops → term_width new term ≡ term_width old term
  pub values : (given : Given) (term : ℕ) → term < length old.ops
      → term_value new given term ≡ term_value old given term
