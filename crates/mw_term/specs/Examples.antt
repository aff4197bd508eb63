-- The rows of a small table, written out.
use Rattle.std.specs.Prelude.{◌≡◌, ℕ, [], ◌∷◌}
use Rattle.mw_term.specs.declared.op.Op.TheVariants.{Var, Not, And, Or, Xor, Sum, Cout, Ovf, Eq, Lt, Ite, Tab}
use Rattle.mw_term.specs.Functions.{Function, never, always, ite, made}
use Rattle.mw_term.specs.Rows.{bit, row}
use Rattle.mw_term.specs.Table.{Table, table_of}

-- words a and b of two bits, which are terms 0 and 1, and c and d of one, which are terms 2 and 3; and a map
abbrev pub small : Table
small = table_of (Var 0 2 ∷ Var 1 2 ∷ Var 2 1 ∷ Var 3 1 ∷ []) (0 ∷ 1 ∷ 1 ∷ 0 ∷ [])

-- a bit of the first word
abbrev pub a : (j : ℕ) → Function
a j = bit small 0 j

-- a bit of the second
abbrev pub b : (j : ℕ) → Function
b j = bit small 1 j

-- the bit of the third
abbrev pub c : Function
c = bit small 2 0

-- and that of the fourth
abbrev pub d : Function
d = bit small 3 0

-- not a bit
abbrev pub inverse_of : Function → Function
inverse_of f = made (ite f never always)

-- whether bit j of the two words differs
abbrev pub differs : (j : ℕ) → Function
differs j = made (ite (a j) (inverse_of (b j)) (b j))

-- the carry out of bit 0
abbrev pub carry : Function
carry = made (ite (differs 0) c (a 0))

-- the rows at bit 0
pub record FirstRows : Type 0 where
  pub not_row : row small (Not 0) 0 ≡ ite (a 0) never always ∷ []
  pub and_row : row small (And 0 1) 0 ≡ ite (a 0) (b 0) never ∷ []
  pub or_row : row small (Or 0 1) 0 ≡ ite (a 0) always (b 0) ∷ []
  pub choice_row : row small (Ite 2 0 1) 0 ≡ ite c (a 0) (b 0) ∷ []
  pub xor_row : row small (Xor 0 1) 0 ≡ ite (b 0) never always ∷ ite (a 0) (inverse_of (b 0)) (b 0) ∷ []
  pub equal_row : row small (Eq 0 1) 0
      ≡ ite (b 0) never always ∷ ite (a 0) (b 0) (inverse_of (b 0))
      ∷ ite (made (ite (a 0) (b 0) (inverse_of (b 0)))) always never ∷ []
  pub less_row : row small (Lt 0 1) 0
      ≡ ite (b 0) never always ∷ ite (a 0) (inverse_of (b 0)) (b 0) ∷ ite (differs 0) (b 0) never ∷ []
  pub entry_row : row small (Tab 0) 0
      ≡ ite (a 0) always never ∷ ite (a 0) never always ∷ ite (a 1) (made (ite (a 0) never always))
      (made (ite (a 0) always never)) ∷ []

-- the rows of a sum: at bit 1, with the carry into it; and of its carry and overflow at bit 0, which is not the top
pub record SumRows : Type 0 where
  pub sum_row : row small (Sum 0 1 2) 1
      ≡ ite (b 1) never always ∷ ite (a 1) (inverse_of (b 1)) (b 1) ∷ ite carry never always
      ∷ ite (differs 1) (inverse_of carry) carry ∷ ite (differs 1) carry (a 1) ∷ []
  pub carry_row : row small (Cout 0 1 2) 0
      ≡ ite (b 0) never always ∷ ite (a 0) (inverse_of (b 0)) (b 0) ∷ ite (differs 0) c (a 0) ∷ []
  pub overflow_row : row small (Ovf 0 1 2) 0 ≡ row small (Cout 0 1 2) 0
  pub top_row : row small (Ovf 3 3 2) 0
      ≡ ite d never always ∷ ite d (inverse_of d) d ∷ ite (made (ite d (inverse_of d) d)) c d
      ∷ ite (made (ite (made (ite d (inverse_of d) d)) c d)) never always
      ∷ ite c (inverse_of (made (ite (made (ite d (inverse_of d) d)) c d)))
      (made (ite (made (ite d (inverse_of d) d)) c d)) ∷ []

-- past the top bit of its operands, or of an entry, a row has no operation
pub record RowsEnd : Type 0 where
  pub not_end : row small (Not 0) 2 ≡ []
  pub and_end : row small (And 0 1) 2 ≡ []
  pub or_end : row small (Or 0 1) 2 ≡ []
  pub xor_end : row small (Xor 0 1) 2 ≡ []
  pub sum_end : row small (Sum 0 1 2) 2 ≡ []
  pub carry_end : row small (Cout 0 1 2) 2 ≡ []
  pub overflow_end : row small (Ovf 0 1 2) 2 ≡ []
  pub equal_end : row small (Eq 0 1) 2 ≡ []
  pub less_end : row small (Lt 0 1) 2 ≡ []
  pub choice_end : row small (Ite 2 0 1) 2 ≡ []
  pub entry_end : row small (Tab 0) 12 ≡ []

-- the rows of the small table
pub record RowsAsWritten : Type 0 where
  pub first : FirstRows
  pub sums : SumRows
  pub ends : RowsEnd
