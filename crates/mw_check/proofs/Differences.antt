-- The first assignment under which the sides of a question differ, and the values that it gives to the variables.
use Rattle.std.proofs.Common.{◌≡◌, inl, inr, ℕ, zero, suc, ◌+◌, ◌*◌, ◌/◌, ◌%◌, ◌^◌, ◌<◌, ◌≤◌, List, [], ◌∷◌, length}
use Rattle.std.proofs.Common.{slice_index, refl, ap, ap₂, sym, ◌∙◌, arith}
use Rattle.std.specs.Prelude.{Bool, true, false, ◌==◌, ◌&&◌, ◌||◌, nat_lt}
use Rattle.std.proofs.lemmas.Bool.{cases_lt, false≢true}
use Rattle.std.proofs.lemmas.Bool.Decides.{nat_tests}
use Rattle.std.proofs.lemmas.Nat.{mod_below, mod_low, pow_pos, div_below}
use Rattle.std.proofs.Math.Nat.{pow-le-pow_right}
use Rattle.mw_base.specs.Words.{bit_of}
use Rattle.mw_base.proofs.Bits.{bit_of-low}
use Rattle.mw_expr.specs.Values.{AreWords}
use Rattle.mw_term.specs.Assigned.{Given}
use Rattle.mw_term.specs.Cofactors.{Variable, value_of}
use Rattle.mw_dd.specs.Diagrams.{AgreeBefore, IsNoLater}
use Rattle.mw_check.specs.Equal.{given_values, values_from}

-- ---- values and assignments

small_mod : (v w : ℕ) → v < 2 ^ w → v % 2 ^ w ≡ v
small_mod v w below =
    let beside : v ≡ 0 * 2 ^ w + v = omega arith in
    ap (λ n. n % 2 ^ w) beside ∙ mod_low 0 w v below

-- the values of words are these, where an assignment has them
values_are : (number : ℕ) (widths values : List ℕ) (given : Given) → length values ≡ length widths
    → ((i : ℕ) → i < length widths → slice_index values i < 2 ^ slice_index widths i)
    → ((i : ℕ) → i < length widths → given (number + i) ≡ slice_index values i)
    → values_from number widths given ≡ values
values_are number [] [] given same each has = refl
values_are number [] (v ∷ vs) given same each has = absurd (omega arith)
values_are number (w ∷ ws) [] given same each has = absurd (omega arith)
values_are number (w ∷ ws) (v ∷ vs) given same each has =
    let here : given number ≡ v = ap given (omega arith) ∙ has 0 (omega arith) in
    let below : v < 2 ^ w = each 0 (omega arith) in
    let first : given number % 2 ^ w ≡ v = rw here (small_mod v w below) in
    ap₂ (λ (x : ℕ) (xs : List ℕ). x ∷ xs) first
    (values_are (number + 1) ws vs given (omega (arith, same)) (λ i inside. each (suc i) (omega (arith, inside)))
    (λ i inside. next i ∙ has (suc i) (omega (arith, inside))))
  where
    next : (i : ℕ) → given (number + 1 + i) ≡ given (number + suc i)
    next i = ap given (omega arith)

pub values_of_given : (widths values : List ℕ) → AreWords widths values
    → values_from 1 widths (given_values values) ≡ values
unfolding given_values
values_of_given widths values are =
    values_are 1 widths values (given_values values) are.count are.each
    (λ i inside. let next : 1 + i ≡ suc i = omega arith in ap (λ n. slice_index (0 ∷ values) n) next)

values_count : (number : ℕ) (widths : List ℕ) (given : Given) → length (values_from number widths given) ≡ length widths
values_count number [] given = refl
values_count number (w ∷ rest) given = omega (arith, values_count (number + 1) rest given)

pub values_each : (number : ℕ) (widths : List ℕ) (given : Given) (i : ℕ) → i < length widths
    → slice_index (values_from number widths given) i ≡ given (number + i) % 2 ^ slice_index widths i
values_each number [] given i inside = absurd (omega arith)
values_each number (w ∷ rest) given zero inside = ap (λ n. given n % 2 ^ w) (omega arith)
values_each number (w ∷ rest) given (suc i) inside =
    values_each (number + 1) rest given i (omega (arith, inside))
    ∙ ap (λ n. given n % 2 ^ slice_index rest i) (omega arith)

-- the values of an assignment are words
pub values_are_words : (widths : List ℕ) (given : Given) → AreWords widths (values_from 1 widths given)
values_are_words widths given = record {
  count = values_count 1 widths given;
  each = λ i inside. rw (values_each 1 widths given i inside)
      (mod_below (given (1 + i)) (2 ^ slice_index widths i) (pow_pos (slice_index widths i)));
}

-- ---- an assignment without the bits that no variable has

no_high_bit : (x j : ℕ) → x < 2 ^ j → bit_of x j ≡ false
no_high_bit x j below =
    let none : x / 2 ^ j < 1 = div_below x (2 ^ j) 1 (pow_pos j) (omega (arith, below)) in
    let zero_is : x / 2 ^ j ≡ 0 = omega (arith, none) in
    rw zero_is refl

-- a bit of a word that is cut to some bits is one of the word
cut_bit : (x w j : ℕ) → bit_of (x % 2 ^ w) j ≡ true → bit_of x j ≡ true
cut_bit x w j is = elim (cases_lt j w) [
  | inl inside ↦ sym (bit_of-low x w j inside) ∙ is
  | inr past ↦
      let powers : 2 ^ w ≤ 2 ^ j = pow-le-pow_right (omega arith) past in
      let below = mod_below x (2 ^ w) (pow_pos w) in
      absurd (false≢true (sym (no_high_bit (x % 2 ^ w) j (omega (arith, powers, below))) ∙ is))
]

kept_bit : (number : ℕ) (widths : List ℕ) (given : Given) (i j : ℕ)
    → bit_of (slice_index (values_from number widths given) i) j ≡ true → bit_of (given (number + i)) j ≡ true
kept_bit number [] given i j is = absurd (false≢true (sym (no_high_bit 0 j (pow_pos j)) ∙ is))
kept_bit number (w ∷ rest) given zero j is =
    ap (λ n. bit_of (given n) j) (omega arith) ∙ cut_bit (given number) w j is
kept_bit number (w ∷ rest) given (suc i) j is =
    ap (λ n. bit_of (given n) j) (omega arith) ∙ kept_bit (number + 1) rest given i j is

-- the assignment of the values has no other bits
kept_word : (widths : List ℕ) (given : Given) (word j : ℕ)
    → bit_of (slice_index (0 ∷ values_from 1 widths given) word) j ≡ true → bit_of (given word) j ≡ true
kept_word widths given zero j is = absurd (false≢true (sym (no_high_bit 0 j (pow_pos j)) ∙ is))
kept_word widths given (suc n) j is =
    ap (λ k. bit_of (given k) j) (omega arith) ∙ kept_bit 1 widths given n j is

cut_true : (widths : List ℕ) (given : Given) (v : Variable)
    → value_of v (given_values (values_from 1 widths given)) ≡ true → value_of v given ≡ true
unfolding given_values
cut_true widths given v is = kept_word widths given v.word v.bit is

-- ---- one assignment that isn't after a part of it is that part

-- an assignment agrees with one that it isn't after, and which has no bits but its own
all_agree : (a m : Given) → IsNoLater a m → ((v : Variable) → value_of v m ≡ true → value_of v a ≡ true)
    → (v : Variable) → value_of v a ≡ value_of v m
all_agree a m first part v = up_to_bit (v.bit + 1) v (omega arith)
  where
    both : (x y : Bool) → (x ≡ true → y ≡ true) → (y ≡ true → x ≡ true) → x ≡ y
    both true y on back = sym (on refl)
    both false true on back = back refl
    both false false on back = refl

    here : (v : Variable) → AgreeBefore v a m → value_of v a ≡ value_of v m
    here v before = both (value_of v a) (value_of v m) (first v before) (part v)

    on_bit : (c x d y b : ℕ) → (nat_lt c d || (c == d && nat_lt x y)) ≡ true → d ≡ b → b ≤ c → c ≡ b
    on_bit c x d y b earlier same past = grind (arith, nat_tests)

    on_word : (c x d y b w : ℕ) → (nat_lt c d || (c == d && nat_lt x y)) ≡ true → d ≡ b → b ≤ c → y < suc w → x < w
    on_word c x d y b w earlier same past inside = grind (arith, nat_tests)

    up_to_word : (b w : ℕ) → ((u : Variable) → u.bit < b → value_of u a ≡ value_of u m) → (v : Variable) → v.bit ≡ b
        → v.word < w → value_of v a ≡ value_of v m
    up_to_word b zero below v same inside = absurd (omega arith)
    up_to_word b (suc w) below v same inside = here v (λ u earlier. elim (cases_lt u.bit b) [
      | inl less ↦ below u less
      | inr not_less ↦ up_to_word b w below u (on_bit u.bit u.word v.bit v.word b earlier same not_less)
          (on_word u.bit u.word v.bit v.word b w earlier same not_less inside)
    ])

    up_to_bit : (b : ℕ) (v : Variable) → v.bit < b → value_of v a ≡ value_of v m
    up_to_bit zero v inside = absurd (omega arith)
    up_to_bit (suc b) v inside = elim (cases_lt v.bit b) [
      | inl less ↦ up_to_bit b v less
      | inr not_less ↦ up_to_word b (v.word + 1) (up_to_bit b) v (omega arith) (omega arith)
    ]

-- so it isn't after what that one isn't after
pub no_later_cut : (a m o : Given) → ((v : Variable) → value_of v a ≡ value_of v m) → IsNoLater a o → IsNoLater m o
no_later_cut a m o agree later v before is =
    later v (λ u earlier. agree u ∙ before u earlier) (agree v ∙ is)

pub agrees_with_values : (widths : List ℕ) (a : Given) → IsNoLater a (given_values (values_from 1 widths a))
    → (v : Variable) → value_of v a ≡ value_of v (given_values (values_from 1 widths a))
agrees_with_values widths a first =
    all_agree a (given_values (values_from 1 widths a)) first (cut_true widths a)
