-- What single nodes give.
use Rattle.std.proofs.Common.{◌≡◌, ℕ, ◌+◌, ◌-◌, ◌%◌, ◌^◌, ◌<◌, ◌≤◌, List, [], ◌∷◌, ◌++◌, length, refl, ap, ap₂, arith}
use Rattle.std.proofs.Common.{sym, ◌∙◌}
use Rattle.std.specs.Prelude.{Bool, true, false, not, ◌==◌, if◌then◌else◌}
use Rattle.std.proofs.lemmas.Bool.Decides.{nat_tests}
use Rattle.mw_base.specs.Words as bits
use Rattle.mw_expr.specs.declared.expr.Pair2.{Pair2}
use Rattle.mw_expr.specs.declared.expr.Pair2.TheVariants as sign
use Rattle.mw_expr.specs.Values.{pair_value}
use Rattle.mw_expr.specs.Widths.{width_after}
use Rattle.mw_term.specs.declared.op.Op.{Op}
use Rattle.mw_term.specs.declared.op.Op.TheVariants.{Con, Var, Not, And, Or, Xor, Sum, Eq, Lt, Ite, Part, Join}
use Rattle.mw_term.specs.Assigned.{Given}
use Rattle.mw_term.specs.Table.{Table, table_of, op_width, widths_of, term_width, width_over, ArePair, IsBit, Fits}
use Rattle.mw_term.specs.Table.{IsTable, IsWidth, Extends}
use Rattle.mw_term.specs.Values.{IsTermOf, Keeps, term_value, value_over, op_value}
use Rattle.mw_term.proofs.Tables.{widths_count, widths_range, words_of}
use Rattle.mw_term.specs.declared.word.Word.{Word}
use Rattle.mw_symmem.specs.Memory.{IsOfWidth}
use Rattle.mw_term.specs.WordList.{plain}
use Rattle.mw_symmem.specs.Words.{AreOf, IsNoVariable}
use Rattle.mw_symmem.proofs.Growth.{grows_one, grows_none, grows_then, width_stays}
use Rattle.mw_symmem.proofs.Later.{grows_without_word}
use Rattle.mw_symmach.specs.GivenTerms.{Gives}

-- ---- one op, and then another

pub gives_op : (told tnew : Table) (wold wnew : List Word) (op : Op) (term : ℕ) → wnew ≡ wold ++ plain term ∷ []
    → IsTermOf told tnew op term → (IsNoVariable op → AreOf told wold → AreOf tnew wnew) → Extends told tnew
    → Keeps told tnew → IsTable tnew → IsNoVariable op
    → Gives told tnew wold wnew (width_over told op) term (λ given. value_over told given op)
gives_op told tnew wold wnew op term words made of extends keeps table none = record {
  made = term ∷ [];
  grows = grows_one told tnew wold wnew op term words extends keeps table of none;
  is = record { there = made.there; width_is = made.width };
  value = made.value;
}

constant_is : (number width n w : ℕ) → Con number width ≡ Var n w → ⊥
constant_is number width n w is = cc

pub gives_constant : (told tnew : Table) (words : List Word) (number width term : ℕ)
    → tnew ≡ table_of (told.ops ++ Con number width ∷ []) told.map → IsTermOf told tnew (Con number width) term
    → Extends told tnew → Keeps told tnew → IsTable tnew → Gives told tnew words words width term (λ given. number)
unfolding op_width op_value
gives_constant told tnew words number width term appends made extends keeps table = record {
  made = [];
  grows = grows_without_word told tnew words (Con number width) appends extends keeps table
      (λ n w is. constant_is number width n w is);
  is = record { there = made.there; width_is = made.width };
  value = made.value;
}

pub gives_then : (a b c : Table) (wa wb wc : List Word) (w term u other : ℕ) (v y : Given → ℕ)
    → Gives a b wa wb w term v → Gives b c wb wc u other y → Gives a c wa wc u other y
gives_then a b c wa wb wc w term u other v y first second = record {
  made = first.made ++ second.made;
  grows = grows_then a b c wa wb wc first.made second.made first.grows second.grows;
  is = second.is;
  value = second.value;
}

pub gives_alike : (a b : Table) (wa wb : List Word) (w u term : ℕ) (v y : Given → ℕ) → Gives a b wa wb w term v
    → w ≡ u → ((given : Given) → v given ≡ y given) → Gives a b wa wb u term y
gives_alike a b wa wb w u term v y gives wide same = record {
  made = gives.made;
  grows = gives.grows;
  is = record { there = gives.is.there; width_is = gives.is.width_is ∙ wide };
  value = λ given. gives.value given ∙ same given;
}

-- a term that there is
pub gives_itself : (t : Table) (words : List Word) (w term : ℕ) → IsOfWidth t w term
    → Gives t t words words w term (λ given. term_value t given term)
gives_itself t words w term is = record {
  made = [];
  grows = grows_none t words;
  is = is;
  value = λ given. refl;
}

-- ---- operands

pub of_own_width : (t : Table) (a : ℕ) → a < length t.ops → IsOfWidth t (term_width t a) a
of_own_width t a there = record { there = there; width_is = refl }

pub inside_ops : (t : Table) (a : ℕ) → a < length (widths_of t.ops) → a < length t.ops
inside_ops t a inside = omega (arith, inside, widths_count t.ops)

pub inside_widths : (t : Table) (a : ℕ) → a < length t.ops → a < length (widths_of t.ops)
inside_widths t a inside = omega (arith, inside, widths_count t.ops)

-- the first and the second of a pair
pub first_of : (t : Table) (a b : ℕ) → ArePair (widths_of t.ops) a b → IsOfWidth t (term_width t a) a
first_of t a b pair = record { there = inside_ops t a pair.0; width_is = refl }

pub second_of : (t : Table) (a b : ℕ) → ArePair (widths_of t.ops) a b → IsOfWidth t (term_width t a) b
second_of t a b pair = record { there = inside_ops t b pair.1; width_is = sym pair.2 }

pub pair_of : (t : Table) (w a b : ℕ) → IsOfWidth t w a → IsOfWidth t w b → ArePair (widths_of t.ops) a b
pair_of t w a b first second =
    (inside_widths t a first.there, inside_widths t b second.there, first.width_is ∙ sym second.width_is)

pub bit_of : (t : Table) (c : ℕ) → IsOfWidth t 1 c → IsBit (widths_of t.ops) c
bit_of t c is = (inside_widths t c is.there, is.width_is)

-- what there was is what it was
pub still : (told tnew : Table) (wold wnew : List Word) (w term u a : ℕ) (v : Given → ℕ)
    → Gives told tnew wold wnew w term v → IsOfWidth told u a → IsOfWidth tnew u a
still told tnew wold wnew w term u a v gives is = width_stays told tnew u a gives.grows.extends gives.grows.keeps is

pub width_of_term : (t : Table) (w a : ℕ) → IsTable t → IsOfWidth t w a → IsWidth w
width_of_term t w a table is =
    let range = widths_range t table a (inside_widths t a is.there) in
    rw is.width_is at range

pub word_of_term : (t : Table) (w a : ℕ) → IsTable t → IsOfWidth t w a → (given : Given) → term_value t given a < 2 ^ w
word_of_term t w a table is given =
    let below = (words_of t given table).words a (inside_widths t a is.there) in
    rw is.width_is at below

-- ---- the ops

pub gives_not : (told tnew : Table) (wold wnew : List Word) (a term w : ℕ) → IsOfWidth told w a
    → Gives told tnew wold wnew (width_over told (Not a)) term (λ given. value_over told given (Not a))
    → Gives told tnew wold wnew w term (λ given. bits.complement w (term_value told given a))
unfolding op_width op_value
gives_not told tnew wold wnew a term w is gives =
    gives_alike told tnew wold wnew _ w term _ (λ given. bits.complement w (term_value told given a)) gives is.width_is
    (λ given. ap (λ n. bits.complement n (term_value told given a)) is.width_is)

pub fits_sum : (t0 t1 : Table) (ws : List Word) (a b c w : ℕ) (v : Given → ℕ) → IsOfWidth t0 w a → IsOfWidth t0 w b
    → Gives t0 t1 ws ws 1 c v → Fits t1 (Sum a b c)
fits_sum t0 t1 ws a b c w v first second carry = (
  pair_of t1 w a b (still t0 t1 ws ws 1 c w a v carry first) (still t0 t1 ws ws 1 c w b v carry second),
  bit_of t1 c carry.is,
)

sum_value : (a b c w v x y k : ℕ) → a ≡ x → b ≡ y → c ≡ k → v ≡ w → (a + b + c) % 2 ^ v ≡ (x + y + k) % 2 ^ w
sum_value a b c w v x y k one two three four = rw (one, two, three, four) refl

pub gives_sum : (t0 t1 t2 : Table) (w0 w2 : List Word) (a b c term w number : ℕ) → IsOfWidth t0 w a → IsOfWidth t0 w b
    → Gives t0 t1 w0 w0 1 c (λ given. number)
    → Gives t1 t2 w0 w2 (width_over t1 (Sum a b c)) term (λ given. value_over t1 given (Sum a b c))
    → Gives t0 t2 w0 w2 w term (λ given. (term_value t0 given a + term_value t0 given b + number) % 2 ^ w)
unfolding op_width op_value
gives_sum t0 t1 t2 w0 w2 a b c term w number first second carry gives =
    let there = still t0 t1 w0 w0 1 c w a (λ given. number) carry first in
    gives_then t0 t1 t2 w0 w0 w2 1 c w term (λ given. number)
    (λ given. (term_value t0 given a + term_value t0 given b + number) % 2 ^ w) carry
    (gives_alike t1 t2 w0 w2 _ w term _ (λ given. (term_value t0 given a + term_value t0 given b + number) % 2 ^ w)
    gives there.width_is
    (λ given. sum_value _ _ _ w _ (term_value t0 given a) (term_value t0 given b) number
    (carry.grows.keeps.values given a first.there) (carry.grows.keeps.values given b second.there) (carry.value given)
    there.width_is))

turned_carry : (x y p : ℕ) → y < p → (x + (p - 1 - y) + 1) % p ≡ (x + (p - y)) % p
turned_carry x y p below =
    let same : x + (p - 1 - y) + 1 ≡ x + (p - y) = omega arith in
    ap (λ n. n % p) same

difference_value : (x y z w : ℕ) (first : ℕ) → first ≡ x → z ≡ bits.complement w y → y < 2 ^ w
    → (first + z + 1) % 2 ^ w ≡ (x + (2 ^ w - y)) % 2 ^ w
difference_value x y z w first one two below = rw (one, two) (turned_carry x y (2 ^ w) below)

pub gives_difference : (t0 t1 t2 : Table) (w0 w1 w2 : List Word) (a b c term w : ℕ) → IsTable t0 → IsOfWidth t0 w a
    → IsOfWidth t0 w b → Gives t0 t1 w0 w1 w c (λ given. bits.complement w (term_value t0 given b))
    → Gives t1 t2 w1 w2 w term (λ given. (term_value t1 given a + term_value t1 given c + 1) % 2 ^ w)
    → Gives t0 t2 w0 w2 w term (λ given. (term_value t0 given a + (2 ^ w - term_value t0 given b)) % 2 ^ w)
gives_difference t0 t1 t2 w0 w1 w2 a b c term w table first second turned gives =
    gives_then t0 t1 t2 w0 w1 w2 w c w term (λ given. bits.complement w (term_value t0 given b))
    (λ given. (term_value t0 given a + (2 ^ w - term_value t0 given b)) % 2 ^ w) turned
    (gives_alike t1 t2 w1 w2 w w term _
    (λ given. (term_value t0 given a + (2 ^ w - term_value t0 given b)) % 2 ^ w) gives refl
    (λ given. difference_value (term_value t0 given a) (term_value t0 given b) (term_value t1 given c) w
    (term_value t1 given a) (turned.grows.keeps.values given a first.there) (turned.value given)
    (word_of_term t0 w b table second given)))

-- the complement and the sum, of a width that is named
pub turned_width : (told tnew : Table) (wold wnew : List Word) (b term w : ℕ) → IsOfWidth told w b
    → Gives told tnew wold wnew (term_width told b) term
    (λ given. bits.complement (term_width told b) (term_value told given b))
    → Gives told tnew wold wnew w term (λ given. bits.complement w (term_value told given b))
turned_width told tnew wold wnew b term w is gives =
    gives_alike told tnew wold wnew (term_width told b) w term _ (λ given. bits.complement w (term_value told given b))
    gives is.width_is (λ given. ap (λ n. bits.complement n (term_value told given b)) is.width_is)

pub sum_width : (told tnew : Table) (wold wnew : List Word) (a b term w : ℕ) → IsOfWidth told w a
    → Gives told tnew wold wnew (term_width told a) term
    (λ given. (term_value told given a + term_value told given b + 1) % 2 ^ term_width told a)
    → Gives told tnew wold wnew w term (λ given. (term_value told given a + term_value told given b + 1) % 2 ^ w)
sum_width told tnew wold wnew a b term w is gives =
    gives_alike told tnew wold wnew (term_width told a) w term _
    (λ given. (term_value told given a + term_value told given b + 1) % 2 ^ w)
    gives is.width_is (λ given. ap (λ n. (term_value told given a + term_value told given b + 1) % 2 ^ n) is.width_is)

turned_bit : (b : Bool) → bits.complement 1 (bits.num b) ≡ bits.num (not b)
turned_bit true = refl
turned_bit false = refl

no_carry : (x y p : ℕ) → (x + y + 0) % p ≡ (x + y) % p
no_carry x y p =
    let same : x + y + 0 ≡ x + y = omega arith in
    ap (λ n. n % p) same

pub gives_unequal : (t0 t1 t2 : Table) (w0 w1 w2 : List Word) (a b c term : ℕ)
    → Gives t0 t1 w0 w1 (width_over t0 (Eq a b)) c (λ given. value_over t0 given (Eq a b))
    → Gives t1 t2 w1 w2 (term_width t1 c) term (λ given. bits.complement (term_width t1 c) (term_value t1 given c))
    → Gives t0 t2 w0 w2 1 term (λ given. bits.complement 1 (bits.num (term_value t0 given a == term_value t0 given b)))
unfolding op_width op_value
gives_unequal t0 t1 t2 w0 w1 w2 a b c term same gives =
    gives_then t0 t1 t2 w0 w1 w2 1 c 1 term _
    (λ given. bits.complement 1 (bits.num (term_value t0 given a == term_value t0 given b))) same
    (gives_alike t1 t2 w1 w2 (term_width t1 c) 1 term _
    (λ given. bits.complement 1 (bits.num (term_value t0 given a == term_value t0 given b))) gives same.is.width_is
    (λ given. ap₂ bits.complement same.is.width_is (same.value given)))

-- ---- signs

abbrev pub Signed : (told tnew : Table) (wold wnew : List Word) (sign : Pair2) (a b term : ℕ) → Type 0
Signed told tnew wold wnew sign a b term =
    Gives told tnew wold wnew (width_after sign (term_width told a)) term
    (λ given. pair_value sign (term_width told a) (term_value told given a) (term_value told given b))

abbrev pub ByOp : (told tnew : Table) (wold wnew : List Word) (op : Op) (term : ℕ) → Type 0
ByOp told tnew wold wnew op term =
    Gives told tnew wold wnew (width_over told op) term (λ given. value_over told given op)

pub signed_and : (told tnew : Table) (wold wnew : List Word) (a b term : ℕ) → ByOp told tnew wold wnew (And a b) term
    → Signed told tnew wold wnew sign.And a b term
unfolding op_width op_value
signed_and told tnew wold wnew a b term gives = gives

pub signed_or : (told tnew : Table) (wold wnew : List Word) (a b term : ℕ) → ByOp told tnew wold wnew (Or a b) term
    → Signed told tnew wold wnew sign.Or a b term
unfolding op_width op_value
signed_or told tnew wold wnew a b term gives = gives

pub signed_xor : (told tnew : Table) (wold wnew : List Word) (a b term : ℕ) → ByOp told tnew wold wnew (Xor a b) term
    → Signed told tnew wold wnew sign.Xor a b term
unfolding op_width op_value
signed_xor told tnew wold wnew a b term gives = gives

pub signed_same : (told tnew : Table) (wold wnew : List Word) (a b term : ℕ) → ByOp told tnew wold wnew (Eq a b) term
    → Signed told tnew wold wnew sign.Same a b term
unfolding op_width op_value
signed_same told tnew wold wnew a b term gives = gives

pub signed_less : (told tnew : Table) (wold wnew : List Word) (a b term : ℕ) → ByOp told tnew wold wnew (Lt a b) term
    → Signed told tnew wold wnew sign.Less a b term
unfolding op_width op_value
signed_less told tnew wold wnew a b term gives = gives

pub signed_add : (told tnew : Table) (wold wnew : List Word) (a b term : ℕ)
    → Gives told tnew wold wnew (term_width told a) term
    (λ given. (term_value told given a + term_value told given b + 0) % 2 ^ term_width told a)
    → Signed told tnew wold wnew sign.Add a b term
signed_add told tnew wold wnew a b term gives =
    gives_alike told tnew wold wnew (term_width told a) (term_width told a) term _
    (λ given. pair_value sign.Add (term_width told a) (term_value told given a) (term_value told given b)) gives refl
    (λ given. no_carry (term_value told given a) (term_value told given b) (2 ^ term_width told a))

pub signed_differ : (told tnew : Table) (wold wnew : List Word) (a b term : ℕ)
    → Gives told tnew wold wnew 1 term
    (λ given. bits.complement 1 (bits.num (term_value told given a == term_value told given b)))
    → Signed told tnew wold wnew sign.Differ a b term
signed_differ told tnew wold wnew a b term gives =
    gives_alike told tnew wold wnew 1 1 term _
    (λ given. pair_value sign.Differ (term_width told a) (term_value told given a) (term_value told given b)) gives refl
    (λ given. turned_bit (term_value told given a == term_value told given b))

-- ---- choices, parts and joins

pub gives_choice : (told tnew : Table) (wold wnew : List Word) (c a b term : ℕ)
    → ByOp told tnew wold wnew (Ite c a b) term
    → Gives told tnew wold wnew (term_width told a) term
    (λ given. if term_value told given c == 1 then term_value told given a else term_value told given b)
unfolding op_width op_value
gives_choice told tnew wold wnew c a b term gives = gives

pub gives_above : (told tnew : Table) (wold wnew : List Word) (high low term : ℕ)
    → ByOp told tnew wold wnew (Join high low) term
    → Gives told tnew wold wnew (term_width told high + term_width told low) term
    (λ given. bits.join (term_width told low) (term_value told given high) (term_value told given low))
unfolding op_width op_value
gives_above told tnew wold wnew high low term gives = gives

pub gives_part : (told tnew : Table) (wold wnew : List Word) (whole low w term : ℕ)
    → ByOp told tnew wold wnew (Part whole low w) term
    → Gives told tnew wold wnew w term (λ given. bits.part low w (term_value told given whole))
unfolding op_width op_value
gives_part told tnew wold wnew whole low w term gives = gives

whole_part : (low w x : ℕ) → low ≡ 0 → x < 2 ^ w → x ≡ bits.part low w x
whole_part low w x none below = rw none (grind (arith, nat_tests))

pub gives_whole : (t : Table) (words : List Word) (whole low w : ℕ) → IsTable t → IsOfWidth t w whole → low ≡ 0
    → Gives t t words words w whole (λ given. bits.part low w (term_value t given whole))
gives_whole t words whole low w table is none =
    gives_alike t t words words w w whole _ (λ given. bits.part low w (term_value t given whole))
    (gives_itself t words w whole is) refl
    (λ given. whole_part low w (term_value t given whole) none (word_of_term t w whole table is given))

beside_zero : (w v x y : ℕ) → v ≡ w → y ≡ x → bits.join v 0 y ≡ x
beside_zero w v x y wide is = rw (wide, is) (omega arith)

zero_above : (v z y x : ℕ) → z ≡ 0 → y ≡ x → bits.join v z y ≡ x
zero_above v z y x zero is = rw (zero, is) (omega arith)

pub fits_zeros : (t0 t1 : Table) (ws : List Word) (narrow zeros w v : ℕ) (y : Given → ℕ) → IsOfWidth t0 v narrow
    → Gives t0 t1 ws ws (w - v) zeros y → v ≤ w → w ≤ 32 → Fits t1 (Join zeros narrow)
fits_zeros t0 t1 ws narrow zeros w v y is gives wider most =
    let there = still t0 t1 ws ws (w - v) zeros v narrow y gives is in (
      inside_widths t1 zeros gives.is.there,
      inside_widths t1 narrow there.there,
      omega (arith, gives.is.width_is, there.width_is, wider, most),
    )

pub gives_widened : (t0 t1 t2 : Table) (w0 w2 : List Word) (narrow zeros term w v : ℕ) → IsOfWidth t0 v narrow → v ≤ w
    → Gives t0 t1 w0 w0 (w - v) zeros (λ given. 0) → ByOp t1 t2 w0 w2 (Join zeros narrow) term
    → Gives t0 t2 w0 w2 w term (λ given. term_value t0 given narrow)
unfolding op_width op_value
gives_widened t0 t1 t2 w0 w2 narrow zeros term w v is wider zero gives =
    let there = still t0 t1 w0 w0 (w - v) zeros v narrow (λ given. 0) zero is in
    gives_then t0 t1 t2 w0 w0 w2 (w - v) zeros w term (λ given. 0) (λ given. term_value t0 given narrow) zero
    (gives_alike t1 t2 w0 w2 _ w term _ (λ given. term_value t0 given narrow) gives
    (omega (arith, zero.is.width_is, there.width_is, wider))
    (λ given. zero_above (term_width t1 narrow) (term_value t1 given zeros) (term_value t1 given narrow)
    (term_value t0 given narrow) (zero.value given) (zero.grows.keeps.values given narrow is.there)))
