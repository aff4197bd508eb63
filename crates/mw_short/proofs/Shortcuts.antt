-- The hints of the shortcuts are right.
use Rattle.std.proofs.Common.{◌≡◌, ◌⊎◌, ℕ, ◌+◌, ◌%◌, ◌^◌, ◌<◌, length, refl, ap, ap₂, arith, sym, ◌∙◌}
use Rattle.std.proofs.Common.{inl, inr, mod-eq_of_lt}
use Rattle.std.specs.Prelude.{Bool, true, false, ◌==◌, max, bit_and, bit_or, bit_xor, if◌then◌else◌}
use Rattle.std.specs.Prelude.{Option, None, Some, IfSome, slice_get}
use Rattle.std.specs.Int.Bits.{and_zero_l, and_zero_r, and_self, or_zero_l, or_zero_r, or_self}
use Rattle.std.specs.Int.Bits.{xor_zero_l, xor_zero_r, xor_self}
use Rattle.std.proofs.Math.Nat.{add_comm, add-mod_left, div-one, le_refl}
use Rattle.std.proofs.lemmas.Bool.{cases_eq, eq-eqb, ne_eqb, le-ltb}
use Rattle.std.proofs.lemmas.Nat.{and_comm, and_mask, mod-mul-add, or_comm, or_lt, pow_pos}
use Rattle.std.proofs.lemmas.Nat.Bits.{same_from_bits_below, bit_at_or, bit_at_ones, bit_at-lt}
use Rattle.mw_base.specs.Words.{complement, join, ones, part}
use Rattle.mw_term.specs.declared.hint.Hint.{Hint}
use Rattle.mw_term.specs.declared.hint.Hint.TheVariants.{Nothing, Constant, Operand, Inner}
use Rattle.mw_term.specs.declared.op.Op.{Op}
use Rattle.mw_term.specs.declared.op.Op.TheVariants.{Not, And, Or, Xor, Sum, Eq, Lt, Ite, Part, Join}
use Rattle.mw_term.specs.Assigned.{Given}
use Rattle.mw_term.specs.Constants.{constant_at}
use Rattle.mw_term.specs.Hints.{meaning, operand_at, hinted, IsRight}
use Rattle.mw_term.specs.Operands.{operands}
use Rattle.mw_short.specs.Shortcuts.{when, is_number, hint_beside, or_else, hint_of_either, neutral_in_sum, branch_of}
use Rattle.mw_term.specs.Table.{Table, op_width, widths_of, term_width, width_over, Fits, IsTable}
use Rattle.mw_term.specs.Values.{op_value, term_value, value_over}
use Rattle.mw_term.proofs.Hinting.{nothing_right}
use Rattle.mw_term.proofs.Tables.{terms_have_ops, words_of}

-- ---- complements

-- a complement of a complement is the word itself
not_twice : (w v : ℕ) → v < 2 ^ w → v ≡ complement w (complement w v)
not_twice w v below = omega (arith, below)

-- a term has no more bits than its width
below : (t : Table) (given : Given) (term : ℕ) → IsTable t → term < length (widths_of t.ops)
    → term_value t given term < 2 ^ term_width t term
below t given term table there = (words_of t given table).words term there

-- a complement of a complement is what that is the complement of
pub inner_right : (t : Table) (a u : ℕ) → IsTable t → slice_get t.ops a ≡ Some (Not u) → IsRight t (Not a) (Inner 0 0)
unfolding hinted operands op_width op_value
inner_right t a u table is =
    let has = terms_have_ops t a (Not u) table is in
    λ given.
    rw (is, has.is.width, has.is.value given)
    (ap (meaning (term_width t u)) (not_twice (term_width t u) (term_value t given u) (below t given u table has.fits)))

-- ---- equal operands

-- a hint for equal operands is right, if it is where they are equal
where_same : (t : Table) (op : Op) (a b : ℕ) (hint : Hint) → (a ≡ b → IsRight t op hint)
    → IsRight t op (when (a == b) hint)
where_same t op a b hint right = elim (cases_eq a b) [
  | inl same ↦ rw (eq-eqb a b same) (right same)
  | inr other ↦ rw (ne_eqb a b other) (nothing_right t op)
]

-- the and of a term with itself is that term
pub and_right : (t : Table) (a b : ℕ) → IsRight t (And a b) (when (a == b) (Operand 0))
unfolding hinted operands op_width op_value
and_right t a b =
    where_same t (And a b) a b (Operand 0)
    (λ same given. rw (← same) (ap (meaning (term_width t a)) (sym (and_self (term_value t given a)))))

-- so is its or
pub or_right : (t : Table) (a b : ℕ) → IsRight t (Or a b) (when (a == b) (Operand 0))
unfolding hinted operands op_width op_value
or_right t a b =
    where_same t (Or a b) a b (Operand 0)
    (λ same given. rw (← same) (ap (meaning (term_width t a)) (sym (or_self (term_value t given a)))))

-- its exclusive or is 0
pub xor_right : (t : Table) (a b : ℕ) → IsRight t (Xor a b) (when (a == b) (Constant 0))
unfolding hinted operands op_width op_value
xor_right t a b =
    where_same t (Xor a b) a b (Constant 0)
    (λ same given. rw (← same) (ap (meaning (term_width t a)) (sym (xor_self (term_value t given a)))))

-- it is equal to itself
pub eq_right : (t : Table) (a b : ℕ) → IsRight t (Eq a b) (when (a == b) (Constant 1))
unfolding hinted op_width op_value
eq_right t a b =
    where_same t (Eq a b) a b (Constant 1)
    (λ same given. rw (← same, eq-eqb (term_value t given a) (term_value t given a) refl) refl)

-- and not less than itself
pub lt_right : (t : Table) (a b : ℕ) → IsRight t (Lt a b) (when (a == b) (Constant 0))
unfolding hinted op_width op_value
lt_right t a b =
    where_same t (Lt a b) a b (Constant 0)
    (λ same given. rw (← same, le-ltb (term_value t given a) (term_value t given a) (le_refl _)) refl)

-- a choice between one number and itself is that number
either_same : (b : Bool) (x : ℕ) → x ≡ (if b then x else x)
either_same true x = refl
either_same false x = refl

-- a choice between one term and itself is that term
pub ite_right : (t : Table) (c a b : ℕ) → IsRight t (Ite c a b) (when (a == b) (Operand 1))
unfolding hinted operands op_width op_value
ite_right t c a b =
    where_same t (Ite c a b) a b (Operand 1)
    (λ same given.
    rw (← same)
    (ap (meaning (term_width t a)) (either_same (term_value t given c == 1) (term_value t given a))))

-- ---- fixed choices

-- a choice by a constant is the branch that it chooses
pub branch_right : (t : Table) (c a b : ℕ) (condition : Option ℕ) → Fits t (Ite c a b)
    → IfSome condition (λ number. (given : Given) → term_value t given c ≡ number)
    → IsRight t (Ite c a b) (branch_of condition)
unfolding hinted operands op_width op_value
branch_right t c a b None fits is = λ given. refl
branch_right t c a b (Some number) fits is = elim (cases_eq number 1) [
  | inl one ↦ λ given. rw (is given, eq-eqb number 1 one) refl
  | inr other ↦
      λ given. rw (is given, ne_eqb number 1 other) (ap (λ w. meaning w (term_value t given b)) (sym fits.1.2))
]

-- ---- neutral constants

-- where a term is the constant of this number, an op has an operand's value
abbrev IsNeutral : Table → Op → (c x n : ℕ) → Type 0
IsNeutral t op c x n = (given : Given) → term_value t given c ≡ n → term_value t given x ≡ value_over t given op

-- where it is, the op has that number
abbrev IsAbsorbing : Table → Op → (c n : ℕ) → Type 0
IsAbsorbing t op c n = (given : Given) → term_value t given c ≡ n → n ≡ value_over t given op

-- an operand with the op's width and value is right
operand_right : (t : Table) (op : Op) (k x : ℕ) → operand_at op k ≡ Some x → term_width t x ≡ width_over t op
    → ((given : Given) → term_value t given x ≡ value_over t given op)
    → IsRight t op (Operand k)
unfolding hinted
operand_right t op k x at wide is = λ given. rw at (ap₂ meaning wide (is given))

-- a constant that ends an op is right, where the operand is that constant
absorbing_right : (t : Table) (op : Op) (c n : ℕ) (absorbing : Option ℕ) → IfSome absorbing (IsAbsorbing t op c)
    → ((given : Given) → term_value t given c ≡ n)
    → IsRight t op (when (is_number n absorbing) (Constant n))
unfolding hinted
absorbing_right t op c n None ends is = nothing_right t op
absorbing_right t op c n (Some m) ends is =
    where_same t op n m (Constant n)
    (λ same given. ap (meaning (width_over t op)) (same ∙ ends given (is given ∙ same)))

-- what an operand hints that is a constant is right
beside_right : (t : Table) (op : Op) (k x c : ℕ) (neutral absorbing number : Option ℕ)
    → operand_at op k ≡ Some x → term_width t x ≡ width_over t op
    → IfSome neutral (IsNeutral t op c x) → IfSome absorbing (IsAbsorbing t op c)
    → IfSome number (λ n. (given : Given) → term_value t given c ≡ n)
    → IsRight t op (hint_beside neutral absorbing number k)
beside_right t op k x c neutral absorbing None at wide same ends is = nothing_right t op
beside_right t op k x c None absorbing (Some n) at wide same ends is = absorbing_right t op c n absorbing ends is
beside_right t op k x c (Some m) absorbing (Some n) at wide same ends is = elim (cases_eq n m) [
  | inl one ↦ rw (eq-eqb n m one) (operand_right t op k x at wide (λ given. same given (is given ∙ one)))
  | inr other ↦ rw (ne_eqb n m other) (absorbing_right t op c n absorbing ends is)
]

-- of two right hints the first that says something is right
either_first : (t : Table) (op : Op) (first second : Hint) → IsRight t op first → IsRight t op second
    → IsRight t op (or_else first second)
either_first t op Nothing second p q = q
either_first t op (Constant n) second p q = p
either_first t op (Operand k) second p q = p
either_first t op (Inner k i) second p q = p

-- an op of two operands of its width, beside the numbers of constants: what is neutral, and what nothing changes
record Sides (t : Table) (op : Op) (a b : ℕ) (neutral absorbing : Option ℕ) : Type 0 where
  first : operand_at op 0 ≡ Some a
  second : operand_at op 1 ≡ Some b
  first_wide : term_width t a ≡ width_over t op
  second_wide : term_width t b ≡ width_over t op
  first_stays : IfSome neutral (IsNeutral t op b a)
  second_stays : IfSome neutral (IsNeutral t op a b)
  ends_second : IfSome absorbing (IsAbsorbing t op b)
  ends_first : IfSome absorbing (IsAbsorbing t op a)

-- a term that is a constant has its number
abbrev pub IsNumber : Table → (term : ℕ) → Type 0
IsNumber t term = IfSome (constant_at t term) (λ n. (given : Given) → term_value t given term ≡ n)

-- what two operands hint is right
either_right : (t : Table) (op : Op) (a b : ℕ) (neutral absorbing : Option ℕ) → Sides t op a b neutral absorbing
    → IsNumber t a → IsNumber t b → IsRight t op (hint_of_either t a b neutral absorbing)
either_right t op a b neutral absorbing s p q =
    either_first t op (hint_beside neutral absorbing (constant_at t b) 0)
    (hint_beside neutral absorbing (constant_at t a) 1)
    (beside_right t op 0 a b neutral absorbing (constant_at t b) s.first s.first_wide s.first_stays s.ends_second q)
    (beside_right t op 1 b a neutral absorbing (constant_at t a) s.second s.second_wide s.second_stays s.ends_first p)

-- ---- 0 and all ones

-- all ones are neutral in an and
and_ones : (w v : ℕ) → v < 2 ^ w → v ≡ bit_and v (ones w)
and_ones w v word = sym (and_mask v w ∙ mod-eq_of_lt word)

-- a bit is at most 1
most : (x : ℕ) → x < 2 → max x 1 ≡ 1
most x less = omega (arith, less)

-- all ones end an or
or_ones : (w v : ℕ) → v < 2 ^ w → ones w ≡ bit_or v (ones w)
or_ones w v word =
    same_from_bits_below w (ones w) (bit_or v (ones w))
    (omega (arith, pow_pos w))
    (or_lt w v (ones w) word (omega (arith, pow_pos w)))
    (λ i inside.
    rw (bit_at_or v (ones w) i, bit_at_ones w i inside) (sym (most _ (bit_at-lt v i))))

-- a value has no more bits than the other operand's
below_second : (t : Table) (a b : ℕ) → IsTable t → b < length (widths_of t.ops) → term_width t a ≡ term_width t b
    → (given : Given) → term_value t given b < 2 ^ term_width t a
below_second t a b table there pair given = rw pair (below t given b table there)

-- all ones are neutral in an and, and 0 ends it
and_sides : (t : Table) (a b : ℕ) → IsTable t → Fits t (And a b)
    → Sides t (And a b) a b (Some (ones (term_width t a))) (Some 0)
unfolding operands op_width op_value
and_sides t a b table fits =
    let w = term_width t a in
    let va = λ (given : Given). term_value t given a in
    let vb = λ (given : Given). term_value t given b in
    record {
      first = refl;
      second = refl;
      first_wide = refl;
      second_wide = sym fits.2;
      first_stays = λ given is. and_ones w (va given) (below t given a table fits.0) ∙ ap (bit_and (va given)) (sym is);
      second_stays = λ given is.
          and_ones w (vb given) (below_second t a b table fits.1 fits.2 given)
          ∙ and_comm (vb given) (ones w)
          ∙ ap (λ v. bit_and v (vb given)) (sym is);
      ends_second = λ given is. sym (and_zero_r (va given)) ∙ ap (bit_and (va given)) (sym is);
      ends_first = λ given is. sym (and_zero_l (vb given)) ∙ ap (λ v. bit_and v (vb given)) (sym is);
    }

-- 0 is neutral in an or, and all ones end it
or_sides : (t : Table) (a b : ℕ) → IsTable t → Fits t (Or a b)
    → Sides t (Or a b) a b (Some 0) (Some (ones (term_width t a)))
unfolding operands op_width op_value
or_sides t a b table fits =
    let w = term_width t a in
    let va = λ (given : Given). term_value t given a in
    let vb = λ (given : Given). term_value t given b in
    record {
      first = refl;
      second = refl;
      first_wide = refl;
      second_wide = sym fits.2;
      first_stays = λ given is. sym (or_zero_r (va given)) ∙ ap (bit_or (va given)) (sym is);
      second_stays = λ given is. sym (or_zero_l (vb given)) ∙ ap (λ v. bit_or v (vb given)) (sym is);
      ends_second = λ given is. or_ones w (va given) (below t given a table fits.0) ∙ ap (bit_or (va given)) (sym is);
      ends_first = λ given is.
          or_ones w (vb given) (below_second t a b table fits.1 fits.2 given)
          ∙ or_comm (vb given) (ones w)
          ∙ ap (λ v. bit_or v (vb given)) (sym is);
    }

-- 0 is neutral in an exclusive or
xor_sides : (t : Table) (a b : ℕ) → Fits t (Xor a b) → Sides t (Xor a b) a b (Some 0) None
unfolding operands op_width op_value
xor_sides t a b fits =
    let va = λ (given : Given). term_value t given a in
    let vb = λ (given : Given). term_value t given b in
    record {
      first = refl;
      second = refl;
      first_wide = refl;
      second_wide = sym fits.2;
      first_stays = λ given is. sym (xor_zero_r (va given)) ∙ ap (bit_xor (va given)) (sym is);
      second_stays = λ given is. sym (xor_zero_l (vb given)) ∙ ap (λ v. bit_xor v (vb given)) (sym is);
      ends_second = tt;
      ends_first = tt;
    }

-- a word is left as it is, where what is added is nothing or all that there are
wraps : (m v s : ℕ) → v < m → (s ≡ v) ⊎ (s ≡ m + v) → v ≡ s % m
wraps m v s less (inl same) = sym (mod-eq_of_lt less) ∙ ap (λ x. x % m) (sym same)
wraps m v s less (inr more) = sym (mod-eq_of_lt less) ∙ sym (add-mod_left m v) ∙ ap (λ x. x % m) (sym more)

-- a carry in and what is neutral beside it are together nothing, or all that there are
carried : (w k : ℕ) → k < 2 → (n : ℕ) → n ≡ (if k == 1 then ones w else 0) → (n + k ≡ 0) ⊎ (n + k ≡ 2 ^ w)
carried w k less n is = elim (cases_eq k 1) [
  | inl one ↦ inr (omega (arith, rw (eq-eqb k 1 one) at is, one, pow_pos w))
  | inr other ↦ inl (omega (arith, rw (ne_eqb k 1 other) at is, other, less))
]

-- such a pair leaves a word as it is, or adds all that there are
neutral_sum : (m v n k : ℕ) → v < m → (n + k ≡ 0) ⊎ (n + k ≡ m) → (v + n + k ≡ v) ⊎ (v + n + k ≡ m + v)
neutral_sum m v n k less (inl nothing) = inl (omega (arith, nothing))
neutral_sum m v n k less (inr all) = inr (omega (arith, all))

-- a constant carry in says what is neutral in a sum
sum_sides : (t : Table) (a b c : ℕ) (carry : Option ℕ) → IsTable t → Fits t (Sum a b c)
    → IfSome carry (λ k. (given : Given) → term_value t given c ≡ k)
    → IfSome carry (λ k. k < 2)
    → Sides t (Sum a b c) a b (neutral_in_sum carry (term_width t a)) None
unfolding operands op_width op_value
sum_sides t a b c None table fits is less =
    record {
      first = refl;
      second = refl;
      first_wide = refl;
      second_wide = sym fits.0.2;
      first_stays = tt;
      second_stays = tt;
      ends_second = tt;
      ends_first = tt;
    }
sum_sides t a b c (Some k) table fits is less =
    let w = term_width t a in
    let n = if k == 1 then ones w else 0 in
    let va = λ (given : Given). term_value t given a in
    let vb = λ (given : Given). term_value t given b in
    let stays = λ (v : ℕ) (word : v < 2 ^ w).
    neutral_sum (2 ^ w) v n k word (carried w k less n refl) in
    record {
      first = refl;
      second = refl;
      first_wide = refl;
      second_wide = sym fits.0.2;
      first_stays = λ given here.
          wraps (2 ^ w) (va given) (va given + n + k) (below t given a table fits.0.0)
          (stays (va given) (below t given a table fits.0.0))
          ∙ ap₂ (λ x y. (va given + x + y) % 2 ^ w) (sym here) (sym (is given));
      second_stays = λ given here.
          wraps (2 ^ w) (vb given) (vb given + n + k) (below_second t a b table fits.0.1 fits.0.2 given)
          (stays (vb given) (below_second t a b table fits.0.1 fits.0.2 given))
          ∙ ap (λ s. (s + k) % 2 ^ w) (add_comm (vb given) n)
          ∙ ap₂ (λ x y. (x + vb given + y) % 2 ^ w) (sym here) (sym (is given));
      ends_second = tt;
      ends_first = tt;
    }

-- so what an and hints is right
pub and_beside : (t : Table) (a b : ℕ) → IsTable t → Fits t (And a b) → IsNumber t a → IsNumber t b
    → IsRight t (And a b) (hint_of_either t a b (Some (ones (term_width t a))) (Some 0))
and_beside t a b table fits p q = either_right t (And a b) a b _ _ (and_sides t a b table fits) p q

-- what an or hints is right
pub or_beside : (t : Table) (a b : ℕ) → IsTable t → Fits t (Or a b) → IsNumber t a → IsNumber t b
    → IsRight t (Or a b) (hint_of_either t a b (Some 0) (Some (ones (term_width t a))))
or_beside t a b table fits p q = either_right t (Or a b) a b _ _ (or_sides t a b table fits) p q

-- what an exclusive or hints is right
pub xor_beside : (t : Table) (a b : ℕ) → Fits t (Xor a b) → IsNumber t a → IsNumber t b
    → IsRight t (Xor a b) (hint_of_either t a b (Some 0) None)
xor_beside t a b fits p q = either_right t (Xor a b) a b _ _ (xor_sides t a b fits) p q

-- what a sum hints is right
pub sum_beside : (t : Table) (a b c : ℕ) (carry : Option ℕ) → IsTable t → Fits t (Sum a b c)
    → IfSome carry (λ k. (given : Given) → term_value t given c ≡ k)
    → IfSome carry (λ k. k < 2 ^ term_width t c)
    → IsNumber t a → IsNumber t b
    → IsRight t (Sum a b c) (hint_of_either t a b (neutral_in_sum carry (term_width t a)) None)
sum_beside t a b c None table fits is less p q =
    either_right t (Sum a b c) a b _ _ (sum_sides t a b c None table fits tt tt) p q
sum_beside t a b c (Some k) table fits is less p q =
    either_right t (Sum a b c) a b _ _ (sum_sides t a b c (Some k) table fits is (rw fits.1.1 at less)) p q

-- ---- parts

-- the lowest bits of a join are its low word
low_of_join : (w high low : ℕ) → low < 2 ^ w → low ≡ part 0 w (join w high low)
low_of_join w high low word =
    sym (mod-mul-add high (2 ^ w) low word) ∙ ap (λ x. x % 2 ^ w) (sym (div-one (join w high low)))

-- as many of the lowest bits of a join as its low term has are that term
pub low_right : (t : Table) (a high low : ℕ) → IsTable t → slice_get t.ops a ≡ Some (Join high low)
    → IsRight t (Part a 0 (term_width t low)) (Inner 0 1)
unfolding hinted operands op_width op_value
low_right t a high low table is =
    let has = terms_have_ops t a (Join high low) table is in
    let w = term_width t low in
    let word = λ (given : Given). below t given low table has.fits.1 in
    λ given.
    rw (is, has.is.value given)
    (ap (meaning w) (low_of_join w (term_value t given high) (term_value t given low) (word given)))
