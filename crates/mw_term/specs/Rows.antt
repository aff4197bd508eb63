-- The rows of the term table: the operations that make the bits of an op, in their order.
use Rattle.std.specs.Prelude.{ℕ, zero, suc, ◌+◌, ◌-◌, List, [], ◌∷◌, ◌++◌, map, ◌==◌, nat_lt, if◌then◌else◌}
use Rattle.mw_base.specs.Words.{bit_of}
use Rattle.mw_term.specs.declared.op.Op.{Op}
use Rattle.mw_term.specs.declared.op.Op.TheVariants.{Con, Var, Not, And, Or, Xor, Sum, Cout, Ovf, Eq, Lt, Ite, Part}
use Rattle.mw_term.specs.declared.op.Op.TheVariants.{Join, Tab}
use Rattle.mw_term.specs.Functions.{Function, never, always, Triple, ite, made}
use Rattle.mw_term.specs.Table.{Table, term_width}
use Rattle.mw_term.specs.Values.{term_value}

-- bit j of a term
abbrev pub bit : Table → (term j : ℕ) → Function
bit t term j = λ given. bit_of (term_value t given term) j

-- ---- single operations

-- where a bit is 0
abbrev pub inverse : Function → Triple
inverse b = ite b never always

-- where two bits differ
abbrev pub difference : (a b : Function) → Triple
difference a b = ite a (made (inverse b)) b

-- where two bits are the same
abbrev pub sameness : (a b : Function) → Triple
sameness a b = ite a b (made (inverse b))

-- the carry out of a bit: the carry into it where the addends' bits differ, and else one of these
abbrev pub next_carry : (a b k : Function) → Triple
next_carry a b k = ite (made (difference a b)) k a

-- words are the same up to a bit where that bit is the same and they were the same before it
abbrev pub next_equal : (a b e : Function) → Triple
next_equal a b e = ite (made (sameness a b)) e never

-- up to a bit one word is less where that bit differs and the other word has it, or where it is the same and the one
-- was less before it
abbrev pub next_less : (a b l : Function) → Triple
next_less a b l = ite (made (difference a b)) b l

-- ---- what a bit takes from those before it

-- the carry into bit j of two words and a carry in
abbrev pub carry_into : (a b : ℕ → Function) → (c : Function) → (j : ℕ) → Function
carry_into a b c zero = c
carry_into a b c (suc j) = made (next_carry (a j) (b j) (carry_into a b c j))

-- whether two words are the same before bit j
abbrev pub equal_before : (a b : ℕ → Function) → (j : ℕ) → Function
equal_before a b zero = always
equal_before a b (suc j) = made (next_equal (a j) (b j) (equal_before a b j))

-- whether one word is less than another before bit j
abbrev pub less_before : (a b : ℕ → Function) → (j : ℕ) → Function
less_before a b zero = never
less_before a b (suc j) = made (next_less (a j) (b j) (less_before a b j))

-- ---- rows

-- the operations of an exclusive or of two bits
abbrev pub xor_row : (a b : Function) → List Triple
xor_row a b = inverse b ∷ difference a b ∷ []

-- those of a bit of a sum, with the carry into it
abbrev pub sum_row : (a b k : Function) → List Triple
sum_row a b k =
    inverse b ∷ difference a b ∷ inverse k ∷ ite (made (difference a b)) (made (inverse k)) k ∷ next_carry a b k ∷ []

-- those of a carry out of a bit, with the carry into it
abbrev pub carry_row : (a b k : Function) → List Triple
carry_row a b k = inverse b ∷ difference a b ∷ next_carry a b k ∷ []

-- of each pair of neighbours in a list an index bit chooses: the second where it holds, and else the first
abbrev pub choices : (i : Function) → List Function → List Triple
choices i [] = []
choices i (only ∷ []) = []
choices i (first ∷ second ∷ rest) = ite i second first ∷ choices i rest

-- an index chooses an entry: its bits from t on, so many, each halve the list of what is left
abbrev pub index_row : (index : ℕ → Function) → (t bits : ℕ) → List Function → List Triple
index_row index t zero entries = []
index_row index t (suc bits) entries =
    choices (index t) entries ++ index_row index (t + 1) bits (map made (choices (index t) entries))

-- the operations of an op over the terms of a table, at bit j of its operands, or of the map's entries
unfoldable pub operations : Table → Op → (j : ℕ) → List Triple
operations t (Con number w) j = []
operations t (Var word w) j = []
operations t (Not a) j = inverse (bit t a j) ∷ []
operations t (And a b) j = ite (bit t a j) (bit t b j) never ∷ []
operations t (Or a b) j = ite (bit t a j) always (bit t b j) ∷ []
operations t (Xor a b) j = xor_row (bit t a j) (bit t b j)
operations t (Sum a b c) j = sum_row (bit t a j) (bit t b j) (carry_into (bit t a) (bit t b) (bit t c 0) j)
operations t (Cout a b c) j = carry_row (bit t a j) (bit t b j) (carry_into (bit t a) (bit t b) (bit t c 0) j)
operations t (Ovf a b c) j =
    let into = carry_into (bit t a) (bit t b) (bit t c 0) j in
    carry_row (bit t a j) (bit t b j) into
    ++ (if j + 1 == term_width t a then xor_row into (made (next_carry (bit t a j) (bit t b j) into)) else [])
operations t (Eq a b) j =
    let before = equal_before (bit t a) (bit t b) j in
    inverse (bit t b j) ∷ sameness (bit t a j) (bit t b j) ∷ next_equal (bit t a j) (bit t b j) before ∷ []
operations t (Lt a b) j =
    let before = less_before (bit t a) (bit t b) j in
    inverse (bit t b j) ∷ difference (bit t a j) (bit t b j) ∷ next_less (bit t a j) (bit t b j) before ∷ []
operations t (Ite c a b) j = ite (bit t c 0) (bit t a j) (bit t b j) ∷ []
operations t (Part a low w) j = []
operations t (Join high low) j = []
operations t (Tab i) j = index_row (bit t i) 0 (term_width t i) (map (λ entry. λ given. bit_of entry j) t.map)

-- at how many bits an op has operations: those of its operands, and of an entry of the map
unfoldable pub row_bits : Table → Op → ℕ
row_bits t (Not a) = term_width t a
row_bits t (And a b) = term_width t a
row_bits t (Or a b) = term_width t a
row_bits t (Xor a b) = term_width t a
row_bits t (Sum a b c) = term_width t a
row_bits t (Cout a b c) = term_width t a
row_bits t (Ovf a b c) = term_width t a
row_bits t (Eq a b) = term_width t a
row_bits t (Lt a b) = term_width t a
row_bits t (Ite c a b) = term_width t a
row_bits t (Tab i) = 12
row_bits t op = 0

-- the row of an op and a bit: its operations at that bit, and none past its last one
abbrev pub row : Table → Op → (j : ℕ) → List Triple
row t op j = if nat_lt j (row_bits t op) then operations t op j else []

-- ---- what they make

-- what the last of some operations makes: never where there is none
abbrev pub last_made : List Triple → Function
last_made [] = never
last_made (only ∷ []) = made only
last_made (first ∷ next ∷ rest) = last_made (next ∷ rest)

-- what the fourth of some operations makes: never where there are fewer
abbrev pub fourth_made : List Triple → Function
fourth_made (first ∷ second ∷ third ∷ fourth ∷ rest) = made fourth
fourth_made row = never

-- What makes bit j of an op: the fourth operation at that bit in a sum, the last at the operands' top bit where a
-- carry or a comparison is asked for, and else the last at that bit. An op without operations has its bits from where
-- it takes them.
unfoldable pub bit_made : Table → Op → (j : ℕ) → Function
bit_made t (Con number w) j = λ given. bit_of number j
bit_made t (Var word w) j = λ given. bit_of (given word) j
bit_made t (Sum a b c) j = fourth_made (row t (Sum a b c) j)
bit_made t (Cout a b c) j = last_made (row t (Cout a b c) (term_width t a - 1))
bit_made t (Ovf a b c) j = last_made (row t (Ovf a b c) (term_width t a - 1))
bit_made t (Eq a b) j = last_made (row t (Eq a b) (term_width t a - 1))
bit_made t (Lt a b) j = last_made (row t (Lt a b) (term_width t a - 1))
bit_made t (Part a low w) j = bit t a (low + j)
bit_made t (Join high low) j = if nat_lt j (term_width t low) then bit t low j else bit t high (j - term_width t low)
bit_made t op j = last_made (row t op j)
