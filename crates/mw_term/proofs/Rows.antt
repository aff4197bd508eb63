-- The operations of a row make the bits of an op's value.
use Rattle.std.proofs.Common.{◌≡◌, ℕ, zero, suc, ◌+◌, ◌-◌, ◌*◌, ◌/◌, ◌%◌, ◌^◌, ◌<◌, List, [], ◌++◌, length, map}
use Rattle.std.proofs.Common.{slice_index, refl, ap, ap₂, arith, sym, ◌∙◌, mod-eq_of_lt, inl, inr}
use Rattle.std.specs.Prelude.{Bool, true, false, not, ◌&&◌, ◌||◌, ◌==◌, nat_lt, if◌then◌else◌}
use Rattle.std.proofs.lemmas.Bool.{lt-ltb, le-ltb, cases_lt}
use Rattle.std.proofs.lemmas.Bool.Decides.{nat_tests}
use Rattle.std.proofs.lemmas.List.{get_or-map, length-map}
use Rattle.std.proofs.lemmas.Nat.{mod_below, pow_pos, shr-shr}
use Rattle.std.proofs.lemmas.Nat.Bits.{bit_at_cat_low, bit_at_cat_high}
use Rattle.mw_base.specs.Carries.{carry_at}
use Rattle.mw_base.specs.Words.{bit_of, num, differ}
use Rattle.mw_base.proofs.Bits.{bit_of-low, bit_of-and, bit_of-or, bit_of-xor, bit_of-complement}
use Rattle.mw_base.proofs.Carries.{carry_at-zero, carry_at-suc, low-suc, num_below, sum_bit}
use Rattle.mw_term.specs.declared.op.Op.{Op}
use Rattle.mw_term.specs.declared.op.Op.TheVariants.{Con, Var, Not, And, Or, Xor, Sum, Cout, Ovf, Eq, Lt, Ite, Part}
use Rattle.mw_term.specs.declared.op.Op.TheVariants.{Join, Tab}
use Rattle.mw_term.specs.Assigned.{Given}
use Rattle.mw_term.specs.Functions.{Function, never, Triple, made}
use Rattle.mw_term.specs.Laws.{RowsMakeValues}
use Rattle.mw_term.specs.Rows.{bit, next_carry, carry_into, equal_before, less_before, xor_row, carry_row, index_row}
use Rattle.mw_term.specs.Rows.{operations, row_bits, row, last_made, fourth_made, bit_made}
use Rattle.mw_term.specs.Table.{Table, op_width, widths_of, width_over, ArePair, IsBit, Fits, IsTable}
use Rattle.mw_term.specs.Values.{op_value, values_of, term_value, value_over, AreWords}
use Rattle.mw_term.proofs.Tables.{words_of}
use Rattle.mw_term.proofs.Indexes.{at, index_made}

-- ---- operations on two and three bits

-- how the rows say that two bits differ, by choices alone
abbrev apart : (x y : Bool) → Bool
apart x y = if x then (if y then false else true) else y

-- whether words with these top bits are the same, where those below are by e
abbrev equal_step : (x y e : Bool) → Bool
equal_step x y e = if (if x then y else (if y then false else true)) then e else false

-- and whether the first is less, where the one below is by l
abbrev less_step : (x y l : Bool) → Bool
less_step x y l = if apart x y then y else l

not_if : (b : Bool) → not b ≡ (if b then false else true)
not_if true = refl
not_if false = refl

and_if : (a b : Bool) → (a && b) ≡ (if a then b else false)
and_if true b = refl
and_if false b = refl

or_if : (a b : Bool) → (a || b) ≡ (if a then true else b)
or_if true b = refl
or_if false b = refl

differ_if : (a b : Bool) → differ a b ≡ apart a b
differ_if true true = refl
differ_if true false = refl
differ_if false b = refl

carry_if : (a b k : Bool)
    → (a && b || (a || b) && k) ≡ (if apart a b then k else a)
carry_if true true true = refl
carry_if true true false = refl
carry_if true false true = refl
carry_if true false false = refl
carry_if false true true = refl
carry_if false true false = refl
carry_if false false true = refl
carry_if false false false = refl

-- numbers of one bit more are the same where that bit is and the others are
equal_if : (m r s : ℕ) (x y : Bool) → r < m → s < m
    → (num x * m + r == num y * m + s) ≡ equal_step x y (r == s)
equal_if m r s true true p q = grind (arith, nat_tests)
equal_if m r s true false p q = grind (arith, nat_tests)
equal_if m r s false true p q = grind (arith, nat_tests)
equal_if m r s false false p q = grind (arith, nat_tests)

-- and one is less where it lacks that bit, or where that bit is the same and the others are less
less_if : (m r s : ℕ) (x y : Bool) → r < m → s < m
    → nat_lt (num x * m + r) (num y * m + s)
    ≡ less_step x y (nat_lt r s)
less_if m r s true true p q = grind (arith, nat_tests)
less_if m r s true false p q = grind (arith, nat_tests)
less_if m r s false true p q = grind (arith, nat_tests)
less_if m r s false false p q = grind (arith, nat_tests)

-- a bit as a word
bit_num : (b : Bool) → bit_of (num b) 0 ≡ b
bit_num true = refl
bit_num false = refl

-- a word of one bit is that bit
pub one_bit : (c : ℕ) → c < 2 → bit_of c 0 ≡ (c == 1)
one_bit zero below = refl
one_bit (suc zero) below = refl
one_bit (suc (suc c)) below = absurd (omega arith)

-- a chosen word's bits
chosen_bit : (b : Bool) (x y j : ℕ) → bit_of (if b then x else y) j ≡ (if b then bit_of x j else bit_of y j)
chosen_bit true x y j = refl
chosen_bit false x y j = refl

-- ---- what goes from bit to bit

module _ (t : Table) (given : Given) (a b : ℕ) where
  abbrev va : ℕ
  va = term_value t given a

  abbrev vb : ℕ
  vb = term_value t given b

  carry_is : (c j : ℕ) → bit t c 0 given ≡ (term_value t given c == 1)
      → carry_into (bit t a) (bit t b) (bit t c 0) j given ≡ carry_at va vb (term_value t given c == 1) j
  carry_is c zero first = first ∙ sym (carry_at-zero va vb (term_value t given c == 1))
  carry_is c (suc j) first =
      let one : j + 1 ≡ suc j = omega arith in
      let into : Bool = term_value t given c == 1 in
      ap (λ (k : Bool). if apart (bit_of va j) (bit_of vb j) then k else bit_of va j) (carry_is c j first)
      ∙ sym (carry_if (bit_of va j) (bit_of vb j) (carry_at va vb into j))
      ∙ sym (carry_at-suc va vb into j)
      ∙ ap (carry_at va vb into) one

  -- what goes along with a comparison of the low bits, by one step a bit
  compared : (compare : ℕ → ℕ → Bool) (step : Bool → Bool → Bool → Bool) (before : ℕ → Function)
      → before 0 given ≡ compare 0 0
      → ((j : ℕ) → before (suc j) given ≡ step (bit_of va j) (bit_of vb j) (before j given))
      → ((m r s : ℕ) (x y : Bool) → r < m → s < m
      → compare (num x * m + r) (num y * m + s) ≡ step x y (compare r s))
      → (j : ℕ) → before j given ≡ compare (va % 2 ^ j) (vb % 2 ^ j)
  compared compare step before first next is zero =
      let low_a : va % 1 ≡ 0 = omega arith in
      let low_b : vb % 1 ≡ 0 = omega arith in
      rw (low_a, low_b) first
  compared compare step before first next is (suc j) =
      let one : suc j ≡ j + 1 = omega arith in
      let under = pow_pos j in
      next j
      ∙ ap (step (bit_of va j) (bit_of vb j)) (compared compare step before first next is j)
      ∙ sym (is (2 ^ j) (va % 2 ^ j) (vb % 2 ^ j) (bit_of va j) (bit_of vb j) (mod_below va (2 ^ j) under)
      (mod_below vb (2 ^ j) under))
      ∙ ap₂ compare (sym (low-suc va j)) (sym (low-suc vb j))
      ∙ ap (λ (k : ℕ). compare (va % 2 ^ k) (vb % 2 ^ k)) (sym one)

  equal_is : (j : ℕ) → equal_before (bit t a) (bit t b) j given ≡ (va % 2 ^ j == vb % 2 ^ j)
  equal_is = compared (λ r s. r == s) equal_step (equal_before (bit t a) (bit t b)) refl (λ j. refl) equal_if

  less_is : (j : ℕ) → less_before (bit t a) (bit t b) j given ≡ nat_lt (va % 2 ^ j) (vb % 2 ^ j)
  less_is = compared (λ r s. nat_lt r s) less_step (less_before (bit t a) (bit t b)) refl (λ j. refl) less_if

-- ---- each op

-- a bit of a sum, from those of the words and the carry into it
sum_made : (r s c j : ℕ) (k : Bool) → c < 2 → k ≡ carry_at r s (c == 1) j
    → bit_of (r + s + c) j
    ≡ apart (apart (bit_of r j) (bit_of s j)) k
sum_made r s c j k below into =
    ap (λ (n : ℕ). bit_of (r + s + n) j) (sym (num_below c below))
    ∙ sum_bit r s (c == 1) j
    ∙ ap (differ (differ (bit_of r j) (bit_of s j))) (sym into)
    ∙ differ_if (differ (bit_of r j) (bit_of s j)) k
    ∙ ap (λ (x : Bool). apart x k) (differ_if (bit_of r j) (bit_of s j))

-- the only bit of a word of one bit
only_bit : (b : Bool) (j : ℕ) → j < 1 → bit_of (num b) j ≡ b
only_bit b zero below = bit_num b
only_bit b (suc j) below = absurd (omega arith)

-- a bit of a word above another is the lower one's below its width, and the higher one's from there on
pub joined_bit : (high low w j : ℕ) → low < 2 ^ w
    → bit_of (high * 2 ^ w + low) j ≡ (if nat_lt j w then bit_of low j else bit_of high (j - w))
joined_bit high low w j below = elim (cases_lt j w) [
  | inl inside ↦ ap (λ (n : ℕ). n == 1) (bit_at_cat_low high w low j inside)
      ∙ ap (λ (b : Bool). if b then bit_of low j else bit_of high (j - w)) (sym (lt-ltb j w inside))
  | inr past ↦ ap (λ (n : ℕ). n == 1) (bit_at_cat_high high w low j below past)
      ∙ ap (λ (b : Bool). if b then bit_of low j else bit_of high (j - w)) (sym (le-ltb j w past))
]

function_if : (b : Bool) (f g : Function) (given : Given)
    → (if b then f else g) given ≡ (if b then f given else g given)
function_if true f g given = refl
function_if false f g given = refl

module _ (t : Table) (table : IsTable t) (given : Given) where
  abbrev ws : List ℕ
  ws = widths_of t.ops

  abbrev vs : List ℕ
  vs = values_of t.map given t.ops

  words : AreWords ws vs
  words = words_of t given table

  -- the value of a term of one bit
  flag : (c : ℕ) → IsBit ws c → slice_index vs c < 2
  flag c is = let below = words.words c is.0 in rw is.1 at below

  -- an op's row at one of its bits has its operations there
  row_is : (op : Op) (j : ℕ) → j < row_bits t op → operations t op j ≡ row t op j
  row_is op j inside =
      ap (λ (b : Bool). if b then operations t op j else []) (sym (lt-ltb j (row_bits t op) inside))

  last_is : (op : Op) (j : ℕ) → j < row_bits t op → last_made (operations t op j) given ≡ last_made (row t op j) given
  last_is op j inside = ap (λ (row : List Triple). last_made row given) (row_is op j inside)

  -- the top bit of a term
  top_below : (a : ℕ) → a < length ws → slice_index ws a - 1 < slice_index ws a
  top_below a there = let wide = words.range a there in omega (arith, wide)

  -- what goes along with a comparison of the low bits compares the words at their top bit
  at_top : (compare : ℕ → ℕ → Bool) (before : ℕ → Function) (a b : ℕ) → ArePair ws a b
      → ((j : ℕ) → before j given ≡ compare (slice_index vs a % 2 ^ j) (slice_index vs b % 2 ^ j))
      → compare (slice_index vs a) (slice_index vs b) ≡ before (suc (slice_index ws a - 1)) given
  at_top compare before a b pair along =
      let wide = words.range a pair.0 in
      let top : suc (slice_index ws a - 1) ≡ slice_index ws a = omega (arith, wide) in
      let first : slice_index vs a % 2 ^ slice_index ws a ≡ slice_index vs a = mod-eq_of_lt (words.words a pair.0) in
      let second : slice_index vs b % 2 ^ slice_index ws a ≡ slice_index vs b =
      mod-eq_of_lt (rw pair.2 (words.words b pair.1)) in
      ap₂ compare (sym first) (sym second)
      ∙ ap (λ (k : ℕ). compare (slice_index vs a % 2 ^ k) (slice_index vs b % 2 ^ k)) (sym top)
      ∙ sym (along (suc (slice_index ws a - 1)))

  pub each : (op : Op) → Fits t op → (j : ℕ) → j < width_over t op
      → bit_of (value_over t given op) j ≡ bit_made t op j given
  unfolding op_value op_width operations row_bits bit_made
  each (Con number w) fits j below = refl
  each (Var word w) fits j below = bit_of-low (given word) w j below
  each (Not a) fits j below =
      bit_of-complement (slice_index ws a) (slice_index vs a) j below (words.words a fits) ∙ not_if (bit t a j given)
      ∙ last_is (Not a) j below
  each (And a b) fits j below = bit_of-and (slice_index vs a) (slice_index vs b) j
      ∙ and_if (bit t a j given) (bit t b j given)
      ∙ last_is (And a b) j below
  each (Or a b) fits j below = bit_of-or (slice_index vs a) (slice_index vs b) j
      ∙ or_if (bit t a j given) (bit t b j given)
      ∙ last_is (Or a b) j below
  each (Xor a b) fits j below = bit_of-xor (slice_index vs a) (slice_index vs b) j
      ∙ differ_if (bit t a j given) (bit t b j given)
      ∙ last_is (Xor a b) j below
  each (Sum a b c) fits j below =
      let carry = flag c fits.1 in
      bit_of-low (slice_index vs a + slice_index vs b + slice_index vs c) (slice_index ws a) j below
      ∙ sum_made (slice_index vs a) (slice_index vs b) (slice_index vs c) j
      (carry_into (bit t a) (bit t b) (bit t c 0) j given) carry
      (carry_is t given a b c j (one_bit (slice_index vs c) carry))
      ∙ ap (λ (row : List Triple). fourth_made row given) (row_is (Sum a b c) j below)
  each (Cout a b c) fits j below =
      let wide = words.range a fits.0.0 in
      let top : suc (slice_index ws a - 1) ≡ slice_index ws a = omega (arith, wide) in
      let first = one_bit (slice_index vs c) (flag c fits.1) in
      let into : Bool = slice_index vs c == 1 in
      only_bit (carry_at (slice_index vs a) (slice_index vs b) into (slice_index ws a)) j below
      ∙ ap (carry_at (slice_index vs a) (slice_index vs b) into) (sym top)
      ∙ sym (carry_is t given a b c (suc (slice_index ws a - 1)) first)
      ∙ last_is (Cout a b c) (slice_index ws a - 1) (top_below a fits.0.0)
  each (Ovf a b c) fits j below =
      let w = slice_index ws a in
      let wide = words.range a fits.0.0 in
      let top : suc (w - 1) ≡ w = omega (arith, wide) in
      let at_top : (w - 1 + 1 == w) ≡ true = grind (arith, nat_tests, wide) in
      let first = one_bit (slice_index vs c) (flag c fits.1) in
      let carry = carry_at (slice_index vs a) (slice_index vs b) (slice_index vs c == 1) in
      let into = carry_into (bit t a) (bit t b) (bit t c 0) (w - 1) in
      let out = made (next_carry (bit t a (w - 1)) (bit t b (w - 1)) into) in
      only_bit (differ (carry (w - 1)) (carry w)) j below
      ∙ ap₂ differ (sym (carry_is t given a b c (w - 1) first)) (ap carry (sym top)
      ∙ sym (carry_is t given a b c (suc (w - 1)) first))
      ∙ differ_if (into given) (out given)
      ∙ ap (λ (x : Bool). last_made
      (carry_row (bit t a (w - 1)) (bit t b (w - 1)) into ++ (if x then xor_row into out else [])) given) (sym at_top)
      ∙ last_is (Ovf a b c) (w - 1) (top_below a fits.0.0)
  each (Eq a b) fits j below =
      only_bit (slice_index vs a == slice_index vs b) j below
      ∙ at_top (λ r s. r == s) (equal_before (bit t a) (bit t b)) a b fits (equal_is t given a b)
      ∙ last_is (Eq a b) (slice_index ws a - 1) (top_below a fits.0)
  each (Lt a b) fits j below =
      only_bit (nat_lt (slice_index vs a) (slice_index vs b)) j below
      ∙ at_top (λ r s. nat_lt r s) (less_before (bit t a) (bit t b)) a b fits (less_is t given a b)
      ∙ last_is (Lt a b) (slice_index ws a - 1) (top_below a fits.0)
  each (Ite c a b) fits j below =
      chosen_bit (slice_index vs c == 1) (slice_index vs a) (slice_index vs b) j
      ∙ ap (λ (x : Bool). if x then bit_of (slice_index vs a) j else bit_of (slice_index vs b) j)
      (sym (one_bit (slice_index vs c) (flag c fits.0)))
      ∙ last_is (Ite c a b) j below
  each (Part a low w) fits j below =
      bit_of-low (slice_index vs a / 2 ^ low) w j below ∙ ap (λ (n : ℕ). n % 2 == 1) (shr-shr (slice_index vs a) low j)
  each (Join high low) fits j below =
      let w = slice_index ws low in
      joined_bit (slice_index vs high) (slice_index vs low) w j (words.words low fits.1)
      ∙ sym (function_if (nat_lt j w) (bit t low j) (bit t high (j - w)) given)
  each (Tab i) fits j inside_entry =
      let v = slice_index vs i in
      let n : ℕ = slice_index ws i - 1 in
      let wide = words.range i fits.0 in
      let top : suc n ≡ slice_index ws i = omega (arith, wide) in
      let last : slice_index ws i ≡ n + 1 = omega (arith, wide) in
      let entry_bit = λ (entry : ℕ). λ (given : Given). bit_of entry j in
      let entries : List Function = map entry_bit t.map in
      let many : length entries ≡ 2 ^ (n + 1) = length-map t.map entry_bit ∙ fits.1 ∙ ap (λ (k : ℕ). 2 ^ k) last in
      let below : v < 2 ^ slice_index ws i = words.words i fits.0 in
      let inside : v < length t.map = rw fits.1 below in
      let small : v < 2 ^ (n + 1) = rw (← last) below in
      let place : v / 1 % 2 ^ (n + 1) ≡ v = ap (λ (x : ℕ). x % 2 ^ (n + 1)) (omega arith) ∙ mod-eq_of_lt small in
      sym (ap (λ (k : ℕ). last_made (index_row (bit t i) 0 k entries) given) (sym top)
      ∙ index_made (bit t i) given v (λ k. refl) n 0 entries many
      ∙ ap (at given entries) place
      ∙ ap (λ (f : Function). f given) (get_or-map entry_bit t.map v 0 never inside))
      ∙ last_is (Tab i) j inside_entry

pub rows_make_values : RowsMakeValues
rows_make_values t op table fits given j below = each t table given op fits j below
