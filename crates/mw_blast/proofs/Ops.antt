-- What rows over the bits of terms make of ops.
use Rattle.std.proofs.Common.{◌≡◌, ℕ, zero, suc, ◌+◌, ◌-◌, ◌<◌, ◌≤◌, List, [], ◌∷◌, ◌++◌, length, slice_index, refl, ap}
use Rattle.std.proofs.Common.{sym, ◌∙◌, arith, subst, inl, inr, length-append, take, drop}
use Rattle.std.specs.Prelude.{Bool, true, if◌then◌else◌, ◌==◌, nat_lt, Result, Ok, Err, MatchResult, slice_get, Some}
use Rattle.std.proofs.lemmas.Bool.{lt-ltb, le-ltb, cases_lt}
use Rattle.std.proofs.lemmas.List.{get_or_append_left, get_or-append-add, get_or-take, get_or-drop, length-take-le}
use Rattle.std.proofs.lemmas.List.{length-drop}
use Rattle.std.proofs.lemmas.Bool.Decides.{nat_tests}
use Rattle.mw_term.specs.declared.op.Op.{Op}
use Rattle.mw_term.specs.declared.op.Op.TheVariants.{Con, Var, Not, And, Or, Xor, Sum, Cout, Ovf, Eq, Lt, Ite, Part}
use Rattle.mw_term.specs.declared.op.Op.TheVariants.{Join, Tab}
use Rattle.mw_base.specs.Words.{bit_of}
use Rattle.mw_term.specs.Cofactors.{variable, value_of}
use Rattle.mw_term.specs.Functions.{Function, never, always, Triple, made}
use Rattle.mw_term.specs.Rows.{bit, difference, next_carry, next_equal, next_less, carry_into, equal_before}
use Rattle.mw_term.specs.Rows.{less_before, xor_row}
use Rattle.mw_term.specs.Rows.{carry_row, operations, row_bits, row, last_made, fourth_made, bit_made}
use Rattle.mw_term.specs.Table.{Table, IsTable, ArePair, op_width, widths_of, term_width, width_over}
use Rattle.mw_term.proofs.Rows.{rows_make_values}
use Rattle.mw_term.proofs.Tables.{terms_have_ops}
use Rattle.mw_dd.specs.declared.dd.DdFault.{DdFault}
use Rattle.mw_dd.specs.declared.dd.DdFault.TheVariants as dd
use Rattle.mw_dd.specs.Nodes.{Node}
use Rattle.mw_blast.specs.declared.fault.RowFault.{RowFault}
use Rattle.mw_blast.specs.declared.fault.RowFault.TheVariants.{Over, NoMemory}
use Rattle.mw_blast.specs.declared.rows.Row.{Row}
use Rattle.mw_blast.specs.declared.rows.Row.TheVariants as rows
use Rattle.mw_blast.specs.Bits.{StandsFor, AreFor, AreBits}
use Rattle.mw_blast.specs.Causes.{IsOneOver}
use Rattle.mw_blast.specs.Entries.{entry_row}
use Rattle.mw_blast.specs.Kept.{Made, is_made, AreMade, IsOf, AreReady}
use Rattle.mw_blast.specs.Rows.{row_operations, carried, bit_at, operations_at, IsRefused, IsRefusedAt, fault_at}
use Rattle.mw_blast.proofs.Operations.{over_before, over_behind}

-- ---- what is carried

carried_sum : (a b : ℕ → Function) (c : Function) (j : ℕ) → carried rows.Sum a b c j ≡ carry_into a b c j
carried_sum a b c zero = refl
carried_sum a b c (suc j) = ap (λ (k : Function). made (next_carry (a j) (b j) k)) (carried_sum a b c j)

carried_carry : (a b : ℕ → Function) (c : Function) (j : ℕ) → carried rows.Carry a b c j ≡ carry_into a b c j
carried_carry a b c zero = refl
carried_carry a b c (suc j) = ap (λ (k : Function). made (next_carry (a j) (b j) k)) (carried_carry a b c j)

carried_equal : (a b : ℕ → Function) (j : ℕ) → carried rows.Equal a b always j ≡ equal_before a b j
carried_equal a b zero = refl
carried_equal a b (suc j) = ap (λ (k : Function). made (next_equal (a j) (b j) k)) (carried_equal a b j)

carried_less : (a b : ℕ → Function) (j : ℕ) → carried rows.Less a b never j ≡ less_before a b j
carried_less a b zero = refl
carried_less a b (suc j) = ap (λ (k : Function). made (next_less (a j) (b j) k)) (carried_less a b j)

carried_choice : (a b : ℕ → Function) (c : Function) (j : ℕ) → carried rows.Choice a b c j ≡ c
carried_choice a b c zero = refl
carried_choice a b c (suc j) = carried_choice a b c j

-- ---- ops of words

-- at one of its bits an op's row has its operations there
row_is : (t : Table) (op : Op) (j : ℕ) → j < row_bits t op → operations t op j ≡ row t op j
row_is t op j inside =
    ap (λ (b : Bool). if b then operations t op j else []) (sym (lt-ltb j (row_bits t op) inside))

-- a row over two words of so many bits makes an op's bits by its operations
pub record Makes (t : Table) (op : Op) (row : Row) (a b : ℕ → Function) (first : Function) (bits : ℕ) : Type 0 where
  pub row_wide : row_bits t op ≡ bits
  pub wide : width_over t op ≡ bits
  pub same : (j : ℕ) → operations_at row a b first j ≡ operations t op j
  pub its : (j : ℕ) → j < bits → bit_at row a b first j ≡ bit_made t op j

pub not_makes : (t : Table) (a : ℕ) → Makes t (Not a) rows.Not (bit t a) (bit t a) never (term_width t a)
unfolding op_width operations row_bits bit_made
not_makes t a = record {
  row_wide = refl;
  wide = refl;
  same = λ j. refl;
  its = λ j inside. ap last_made (row_is t (Not a) j inside);
}

pub and_makes : (t : Table) (a b : ℕ) → Makes t (And a b) rows.And (bit t a) (bit t b) never (term_width t a)
unfolding op_width operations row_bits bit_made
and_makes t a b = record {
  row_wide = refl;
  wide = refl;
  same = λ j. refl;
  its = λ j inside. ap last_made (row_is t (And a b) j inside);
}

pub or_makes : (t : Table) (a b : ℕ) → Makes t (Or a b) rows.Or (bit t a) (bit t b) never (term_width t a)
unfolding op_width operations row_bits bit_made
or_makes t a b = record {
  row_wide = refl;
  wide = refl;
  same = λ j. refl;
  its = λ j inside. ap last_made (row_is t (Or a b) j inside);
}

pub xor_makes : (t : Table) (a b : ℕ) → Makes t (Xor a b) rows.Xor (bit t a) (bit t b) never (term_width t a)
unfolding op_width operations row_bits bit_made
xor_makes t a b = record {
  row_wide = refl;
  wide = refl;
  same = λ j. refl;
  its = λ j inside. ap last_made (row_is t (Xor a b) j inside);
}

sum_same : (t : Table) (a b c j : ℕ)
    → operations_at rows.Sum (bit t a) (bit t b) (bit t c 0) j ≡ operations t (Sum a b c) j
unfolding operations
sum_same t a b c j =
    ap (λ (k : Function). row_operations rows.Sum (bit t a j) (bit t b j) k)
    (carried_sum (bit t a) (bit t b) (bit t c 0) j)

pub sum_makes : (t : Table) (a b c : ℕ)
    → Makes t (Sum a b c) rows.Sum (bit t a) (bit t b) (bit t c 0) (term_width t a)
unfolding op_width row_bits bit_made
sum_makes t a b c = record {
  row_wide = refl;
  wide = refl;
  same = sum_same t a b c;
  its = λ j inside. ap fourth_made (sum_same t a b c j ∙ row_is t (Sum a b c) j inside);
}

choice_same : (t : Table) (c a b j : ℕ)
    → operations_at rows.Choice (bit t a) (bit t b) (bit t c 0) j ≡ operations t (Ite c a b) j
unfolding operations
choice_same t c a b j =
    ap (λ (k : Function). row_operations rows.Choice (bit t a j) (bit t b j) k)
    (carried_choice (bit t a) (bit t b) (bit t c 0) j)

pub choice_makes : (t : Table) (c a b : ℕ)
    → Makes t (Ite c a b) rows.Choice (bit t a) (bit t b) (bit t c 0) (term_width t a)
unfolding op_width row_bits bit_made
choice_makes t c a b = record {
  row_wide = refl;
  wide = refl;
  same = choice_same t c a b;
  its = λ j inside. ap last_made (choice_same t c a b j ∙ row_is t (Ite c a b) j inside);
}

-- ---- what is so of the operations is so of the row

refused_row : (t : Table) (op : Op) (operations_of : ℕ → List Triple) (bits budget : ℕ) (e : RowFault)
    → row_bits t op ≡ bits
    → ((j : ℕ) → IsOneOver (operations_of j) budget → IsOneOver (operations t op j) budget)
    → IsRefusedAt operations_of bits budget e → IsRefusedAt (row t op) (row_bits t op) budget e
refused_row t op operations_of bits budget (Over j) wide same refused =
    let inside : j < row_bits t op = omega (arith, wide, refused.0) in
    (inside, subst (λ (ops : List Triple). IsOneOver ops budget) (row_is t op j inside) (same j refused.1))
refused_row t op operations_of bits budget NoMemory wide same refused = tt

pub for_same : (nodes : List Node) (n m : ℕ) (f g : ℕ → Function) (xs : List ℕ) → n ≡ m
    → ((j : ℕ) → j < m → f j ≡ g j) → AreFor nodes m f xs → AreFor nodes n g xs
for_same nodes n m f g xs count same are = record {
  count = are.count ∙ sym count;
  each = λ j inside. subst (λ (h : Function). StandsFor nodes (slice_index xs j) h)
      (same j (omega (arith, inside, are.count))) (are.each j inside);
}

-- what is answered for an op, from what is answered for its row
pub makes : {T : Type 0} (t : Table) (op : Op) (row_of : Row) (a b : ℕ → Function) (first : Function) (bits : ℕ)
    → Makes t op row_of a b first bits
    → (nodes : List Node) (budget : ℕ) (result : Result T RowFault) (items : T → List ℕ)
    → MatchResult result (λ v. AreFor nodes bits (bit_at row_of a b first) (items v))
    (IsRefusedAt (operations_at row_of a b first) bits budget)
    → MatchResult result (λ v. AreFor nodes (width_over t op) (bit_made t op) (items v))
    (IsRefusedAt (row t op) (row_bits t op) budget)
makes t op row_of a b first bits are nodes budget (Ok v) items made =
    for_same nodes (width_over t op) bits (bit_at row_of a b first) (bit_made t op) (items v) are.wide are.its made
makes t op row_of a b first bits are nodes budget (Err e) items refused =
    refused_row t op (operations_at row_of a b first) bits budget e are.row_wide
    (λ j over. subst (λ (ops : List Triple). IsOneOver ops budget) (are.same j) over) refused

-- ---- ops of one bit

-- a row over two words of so many bits makes an op's only bit at their top bit
pub record MakesTop (t : Table) (op : Op) (row : Row) (a b : ℕ → Function) (first : Function) (bits : ℕ) : Type 0 where
  pub row_wide : row_bits t op ≡ bits
  pub wide : width_over t op ≡ 1
  pub same : (j : ℕ) → operations_at row a b first j ≡ operations t op j
  pub its : (j : ℕ) → 1 ≤ bits → bit_at row a b first (bits - 1) ≡ bit_made t op j

below_top : (n : ℕ) → 1 ≤ n → n - 1 < n
below_top n some = omega arith

out_same : (t : Table) (a b c j : ℕ)
    → operations_at rows.Carry (bit t a) (bit t b) (bit t c 0) j ≡ operations t (Cout a b c) j
unfolding operations
out_same t a b c j =
    ap (λ (k : Function). row_operations rows.Carry (bit t a j) (bit t b j) k)
    (carried_carry (bit t a) (bit t b) (bit t c 0) j)

pub out_makes : (t : Table) (a b c : ℕ)
    → MakesTop t (Cout a b c) rows.Carry (bit t a) (bit t b) (bit t c 0) (term_width t a)
unfolding op_width row_bits bit_made
out_makes t a b c = record {
  row_wide = refl;
  wide = refl;
  same = out_same t a b c;
  its = λ j some. ap last_made (out_same t a b c (term_width t a - 1)
      ∙ row_is t (Cout a b c) (term_width t a - 1) (below_top (term_width t a) some));
}

equal_same : (t : Table) (a b j : ℕ) → operations_at rows.Equal (bit t a) (bit t b) always j ≡ operations t (Eq a b) j
unfolding operations
equal_same t a b j =
    ap (λ (k : Function). row_operations rows.Equal (bit t a j) (bit t b j) k) (carried_equal (bit t a) (bit t b) j)

pub equal_makes : (t : Table) (a b : ℕ)
    → MakesTop t (Eq a b) rows.Equal (bit t a) (bit t b) always (term_width t a)
unfolding op_width row_bits bit_made
equal_makes t a b = record {
  row_wide = refl;
  wide = refl;
  same = equal_same t a b;
  its = λ j some. ap last_made (equal_same t a b (term_width t a - 1)
      ∙ row_is t (Eq a b) (term_width t a - 1) (below_top (term_width t a) some));
}

less_same : (t : Table) (a b j : ℕ) → operations_at rows.Less (bit t a) (bit t b) never j ≡ operations t (Lt a b) j
unfolding operations
less_same t a b j =
    ap (λ (k : Function). row_operations rows.Less (bit t a j) (bit t b j) k) (carried_less (bit t a) (bit t b) j)

pub less_makes : (t : Table) (a b : ℕ)
    → MakesTop t (Lt a b) rows.Less (bit t a) (bit t b) never (term_width t a)
unfolding op_width row_bits bit_made
less_makes t a b = record {
  row_wide = refl;
  wide = refl;
  same = less_same t a b;
  its = λ j some. ap last_made (less_same t a b (term_width t a - 1)
      ∙ row_is t (Lt a b) (term_width t a - 1) (below_top (term_width t a) some));
}

pub makes_top : {T : Type 0} (t : Table) (op : Op) (row_of : Row) (a b : ℕ → Function) (first : Function) (bits : ℕ)
    → MakesTop t op row_of a b first bits → 1 ≤ bits
    → (nodes : List Node) (budget : ℕ) (result : Result T RowFault) (items : T → List ℕ)
    → MatchResult result (λ v. AreFor nodes 1 (λ j. bit_at row_of a b first (bits - 1)) (items v))
    (IsRefusedAt (operations_at row_of a b first) bits budget)
    → MatchResult result (λ v. AreFor nodes (width_over t op) (bit_made t op) (items v))
    (IsRefusedAt (row t op) (row_bits t op) budget)
makes_top t op row_of a b first bits are some nodes budget (Ok v) items made =
    for_same nodes (width_over t op) 1 (λ j. bit_at row_of a b first (bits - 1)) (bit_made t op) (items v) are.wide
    (λ j inside. are.its j some) made
makes_top t op row_of a b first bits are some nodes budget (Err e) items refused =
    refused_row t op (operations_at row_of a b first) bits budget e are.row_wide
    (λ j over. subst (λ (ops : List Triple). IsOneOver ops budget) (are.same j) over) refused

-- ---- the overflow

-- at the top bit the row of an overflow has these operations
overflow_top : (t : Table) (a b c : ℕ) → 1 ≤ term_width t a
    → carry_row (bit t a (term_width t a - 1)) (bit t b (term_width t a - 1))
    (carried rows.Carry (bit t a) (bit t b) (bit t c 0) (term_width t a - 1))
    ++ xor_row (carried rows.Carry (bit t a) (bit t b) (bit t c 0) (term_width t a - 1))
    (bit_at rows.Carry (bit t a) (bit t b) (bit t c 0) (term_width t a - 1))
    ≡ operations t (Ovf a b c) (term_width t a - 1)
unfolding operations
overflow_top t a b c some =
    let top : ℕ = term_width t a - 1 in
    let ends : (top + 1 == term_width t a) ≡ true = grind (arith, nat_tests, some) in
    let x = bit t a top in
    let y = bit t b top in
    ap (λ (k : Function). carry_row x y k ++ xor_row k (made (next_carry x y k)))
    (carried_carry (bit t a) (bit t b) (bit t c 0) top)
    ∙ ap (λ (e : Bool). carry_row x y (carry_into (bit t a) (bit t b) (bit t c 0) top)
    ++ (if e then xor_row (carry_into (bit t a) (bit t b) (bit t c 0) top)
    (made (next_carry x y (carry_into (bit t a) (bit t b) (bit t c 0) top))) else [])) (sym ends)

-- its carries' operations are among its own
overflow_carry : (t : Table) (a b c budget j : ℕ)
    → IsOneOver (operations_at rows.Carry (bit t a) (bit t b) (bit t c 0) j) budget
    → IsOneOver (operations t (Ovf a b c) j) budget
unfolding operations
overflow_carry t a b c budget j over =
    let into = carry_into (bit t a) (bit t b) (bit t c 0) j in
    over_before (carry_row (bit t a j) (bit t b j) into)
    (if j + 1 == term_width t a then xor_row into (made (next_carry (bit t a j) (bit t b j) into)) else []) budget
    (subst (λ (k : Function). IsOneOver (carry_row (bit t a j) (bit t b j) k) budget)
    (carried_carry (bit t a) (bit t b) (bit t c 0) j) over)

pub overflow_wide : (t : Table) (a b c : ℕ) → row_bits t (Ovf a b c) ≡ term_width t a
unfolding row_bits
overflow_wide t a b c = refl

pub overflow_one : (t : Table) (a b c : ℕ) → width_over t (Ovf a b c) ≡ 1
unfolding op_width
overflow_one t a b c = refl

-- a carry that is refused
pub overflow_refused : (t : Table) (a b c budget : ℕ) (e : RowFault)
    → IsRefusedAt (operations_at rows.Carry (bit t a) (bit t b) (bit t c 0)) (term_width t a) budget e
    → IsRefusedAt (row t (Ovf a b c)) (term_width t a) budget e
overflow_refused t a b c budget e refused =
    subst (λ (n : ℕ). IsRefusedAt (row t (Ovf a b c)) n budget e) (overflow_wide t a b c)
    (refused_row t (Ovf a b c) (operations_at rows.Carry (bit t a) (bit t b) (bit t c 0)) (term_width t a) budget e
    (overflow_wide t a b c) (overflow_carry t a b c budget) refused)

-- the last operations that are refused
pub overflow_over : (t : Table) (a b c budget : ℕ) → 1 ≤ term_width t a
    → IsOneOver (xor_row (carried rows.Carry (bit t a) (bit t b) (bit t c 0) (term_width t a - 1))
    (bit_at rows.Carry (bit t a) (bit t b) (bit t c 0) (term_width t a - 1))) budget
    → IsOneOver (row t (Ovf a b c) (term_width t a - 1)) budget
overflow_over t a b c budget some over =
    let top : ℕ = term_width t a - 1 in
    let into = carried rows.Carry (bit t a) (bit t b) (bit t c 0) top in
    subst (λ (ops : List Triple). IsOneOver ops budget)
    (overflow_top t a b c some
    ∙ row_is t (Ovf a b c) top (omega (arith, overflow_wide t a b c, below_top (term_width t a) some)))
    (over_behind (carry_row (bit t a top) (bit t b top) into)
    (xor_row into (bit_at rows.Carry (bit t a) (bit t b) (bit t c 0) top)) budget over)

-- as a refusal at the top bit
pub overflow_last : (t : Table) (a b c budget : ℕ) (e : DdFault) → 1 ≤ term_width t a
    → IsRefused (xor_row (carried rows.Carry (bit t a) (bit t b) (bit t c 0) (term_width t a - 1))
    (bit_at rows.Carry (bit t a) (bit t b) (bit t c 0) (term_width t a - 1))) budget e
    → IsRefusedAt (row t (Ovf a b c)) (term_width t a) budget (fault_at (term_width t a - 1) e)
overflow_last t a b c budget dd.OverBudget some over =
    (below_top (term_width t a) some, overflow_over t a b c budget some over)
overflow_last t a b c budget dd.NoMemory some refused = tt

-- and what they make
pub overflow_made : (t : Table) (a b c j : ℕ) → 1 ≤ term_width t a
    → made (difference (carried rows.Carry (bit t a) (bit t b) (bit t c 0) (term_width t a - 1))
    (bit_at rows.Carry (bit t a) (bit t b) (bit t c 0) (term_width t a - 1)))
    ≡ bit_made t (Ovf a b c) j
unfolding bit_made
overflow_made t a b c j some =
    ap last_made (overflow_top t a b c some
    ∙ row_is t (Ovf a b c) (term_width t a - 1)
    (omega (arith, overflow_wide t a b c, below_top (term_width t a) some)))

-- ---- ops without operations

pub constant_made : (t : Table) (nodes : List Node) (number w : ℕ) (xs : List ℕ)
    → AreFor nodes w (λ j given. bit_of number j) xs
    → AreFor nodes (width_over t (Con number w)) (bit_made t (Con number w)) xs
unfolding op_width bit_made
constant_made t nodes number w xs are = are

pub variable_made : (t : Table) (nodes : List Node) (word w : ℕ) (xs : List ℕ)
    → AreFor nodes w (λ j. value_of (variable j word)) xs
    → AreFor nodes (width_over t (Var word w)) (bit_made t (Var word w)) xs
unfolding op_width bit_made
variable_made t nodes word w xs are = are

-- so many items from a place on
pub part_slice : (xs ys : List ℕ) (low w : ℕ) → low + w ≤ length xs → ys ≡ take w (drop low xs)
    → (length ys ≡ w) × ((j : ℕ) → j < w → slice_index ys j ≡ slice_index xs (low + j))
part_slice xs ys low w within is =
    let rest : length (drop low xs) ≡ length xs - low = length-drop low xs in (
      ap length is ∙ length-take-le w (drop low xs) (omega (arith, rest, within)),
      λ j inside. ap (λ zs. slice_index zs j) is
          ∙ get_or-take w (drop low xs) j 0 inside
          ∙ get_or-drop low xs j 0,
    )

pub part_made : (t : Table) (nodes : List Node) (a low w : ℕ) (xs ys : List ℕ) → AreBits t nodes a xs
    → length ys ≡ w → low + w ≤ length xs
    → ((j : ℕ) → j < w → slice_index ys j ≡ slice_index xs (low + j))
    → AreFor nodes (width_over t (Part a low w)) (bit_made t (Part a low w)) ys
unfolding op_width bit_made
part_made t nodes a low w xs ys are count within same = record {
  count = count;
  each = λ j inside. subst (λ x. StandsFor nodes x (bit t a (low + j)))
      (sym (same j (omega (arith, inside, count)))) (are.each (low + j) (omega (arith, within, inside, count)));
}

pub join_made : (t : Table) (nodes : List Node) (high low : ℕ) (xs ys : List ℕ) → AreBits t nodes high xs
    → AreBits t nodes low ys
    → AreFor nodes (width_over t (Join high low)) (bit_made t (Join high low)) (ys ++ xs)
unfolding op_width bit_made
join_made t nodes high low xs ys above below = record {
  count = omega (arith, length-append ys xs, above.count, below.count);
  each = λ j inside. elim (cases_lt j (term_width t low)) [
    | inl in_low ↦
        let there : j < length ys = omega (arith, in_low, below.count) in
        subst (λ x.
        StandsFor nodes x (if nat_lt j (term_width t low) then bit t low j else bit t high (j - term_width t low)))
        (sym (get_or_append_left ys xs 0 j there))
        (subst (λ (b : Bool). StandsFor nodes (slice_index ys j)
        (if b then bit t low j else bit t high (j - term_width t low))) (sym (lt-ltb j (term_width t low) in_low))
        (below.each j there))
    | inr in_high ↦
        let place : ℕ = j - term_width t low in
        let there : place < length xs =
        omega (arith, in_high, inside, length-append ys xs, above.count, below.count) in
        let at_xs : slice_index (ys ++ xs) j ≡ slice_index xs place =
        ap (slice_index (ys ++ xs)) (omega (arith, in_high, below.count)) ∙ get_or-append-add ys xs place 0 in
        subst (λ x.
        StandsFor nodes x (if nat_lt j (term_width t low) then bit t low j else bit t high (j - term_width t low)))
        (sym at_xs)
        (subst (λ (b : Bool). StandsFor nodes (slice_index xs place)
        (if b then bit t low j else bit t high (j - term_width t low))) (sym (le-ltb j (term_width t low) in_high))
        (above.each place there))
  ];
}

-- ---- an entry of the map

entry_same : (t : Table) (i n j : ℕ) → n ≡ term_width t i → entry_row (bit t i) n t.map j ≡ operations t (Tab i) j
unfolding operations
entry_same t i n j count = ap (λ (k : ℕ). entry_row (bit t i) k t.map j) count

pub entry_makes : {T : Type 0} (t : Table) (i n : ℕ) → n ≡ term_width t i
    → (nodes : List Node) (budget : ℕ) (result : Result T RowFault) (items : T → List ℕ)
    → MatchResult result (λ v. AreFor nodes 12 (λ j. last_made (entry_row (bit t i) n t.map j)) (items v))
    (IsRefusedAt (entry_row (bit t i) n t.map) 12 budget)
    → MatchResult result (λ v. AreFor nodes (width_over t (Tab i)) (bit_made t (Tab i)) (items v))
    (IsRefusedAt (row t (Tab i)) (row_bits t (Tab i)) budget)
unfolding op_width row_bits bit_made
entry_makes t i n count nodes budget (Ok v) items are =
    for_same nodes 12 12 (λ j. last_made (entry_row (bit t i) n t.map j)) (bit_made t (Tab i)) (items v) refl
    (λ j inside. ap last_made (entry_same t i n j count ∙ row_is t (Tab i) j inside)) are
entry_makes t i n count nodes budget (Err e) items refused =
    refused_row t (Tab i) (entry_row (bit t i) n t.map) 12 budget e refl
    (λ j over. subst (λ (ops : List Triple). IsOneOver ops budget) (entry_same t i n j count) over) refused

-- ---- two terms that are ready

pub ready_two : (t : Table) (nodes : List Node) (made : Made) (a b : ℕ) → ArePair (widths_of t.ops) a b
    → AreMade made (a ∷ b ∷ []) → IsOf t nodes made → AreReady t nodes made a b
ready_two t nodes made a b pair are of = record {
  pair = pair;
  first = are 0 0 (omega arith);
  second = are 1 0 (omega arith);
  of = of;
}

-- a node for a word of one bit
pub one_stands : (nodes : List Node) (f : ℕ → Function) (xs : List ℕ) (x : ℕ) → xs ≡ x ∷ [] → StandsFor nodes x (f 0)
    → AreFor nodes 1 f xs
one_stands nodes f xs x is stands = rw is (record { count = refl; each = only }) where
  only : (j : ℕ) → j < 1 → StandsFor nodes (slice_index (x ∷ []) j) (f j)
  only zero inside = stands
  only (suc j) inside = absurd (omega arith)

-- ---- an op's bits are those of its term

pub term_bits : (t : Table) (nodes : List Node) (term : ℕ) (op : Op) (xs : List ℕ) → IsTable t
    → slice_get t.ops term ≡ Some op → AreFor nodes (width_over t op) (bit_made t op) xs → AreBits t nodes term xs
term_bits t nodes term op xs table its are =
    let has = terms_have_ops t term op table its in
    record {
      count = are.count ∙ sym has.is.width;
      each = λ j inside.
          let stands = are.each j inside in
          let below : j < width_over t op = omega (arith, inside, are.count) in
          record {
            there = stands.there;
            exact = λ given. stands.exact given
                ∙ sym
                (ap (λ (v : ℕ). bit_of v j) (has.is.value given) ∙ rows_make_values t op table has.fits given j below);
          };
    }

pub two_made : (made : Made) (a b : ℕ) → is_made made a ≡ true → is_made made b ≡ true → AreMade made (a ∷ b ∷ [])
two_made made a b first second zero d inside = first
two_made made a b first second (suc zero) d inside = second
two_made made a b first second (suc (suc k)) d inside = absurd (omega arith)

pub overflow_makes : {T : Type 0} (t : Table) (a b c : ℕ) (nodes : List Node) (budget : ℕ) (result : Result T RowFault)
    (items : T → List ℕ)
    → MatchResult result (λ v. AreFor nodes 1 (bit_made t (Ovf a b c)) (items v))
    (IsRefusedAt (row t (Ovf a b c)) (term_width t a) budget)
    → MatchResult result (λ v. AreFor nodes (width_over t (Ovf a b c)) (bit_made t (Ovf a b c)) (items v))
    (IsRefusedAt (row t (Ovf a b c)) (row_bits t (Ovf a b c)) budget)
unfolding op_width row_bits
overflow_makes t a b c nodes budget (Ok v) items are = are
overflow_makes t a b c nodes budget (Err e) items refused = refused
