-- Decimal numbers as they are printed are read back.
use Rattle.std.proofs.Common.{◌≡◌, ℕ, zero, suc, ◌+◌, ◌*◌, ◌^◌, ◌<◌, ◌≤◌, ◌==◌, List, [], ◌∷◌, map, length, true}
use Rattle.std.proofs.Common.{false, get_or, Ok, lit≤, refl, ap, ◌∙◌, arith}
use Rattle.std.specs.Char.{is_ascii_digit}
use Rattle.std.specs.Int.Digits.{digits_of, number_from_digits, number_from_digits_after, AllBelowBase}
use Rattle.std.specs.List.{list_all, fold}
use Rattle.std.proofs.lemmas.Bool.{lt-ltb}
use Rattle.std.proofs.lemmas.Bool.Decides.{nat_tests}
use Rattle.std.proofs.lemmas.Int.Digits.{all_below_base_digits_of, first_digits_of, length-digits_of-le}
use Rattle.std.proofs.lemmas.Int.Digits.{number_digits_of}
use Rattle.std.proofs.lemmas.List.{length-map}
use Rattle.mw_base.specs.Literals.{all_digits, digit_of, digits_number, number_spelled, value_of}
use Rattle.mw_base.specs.Numbers.{decimal, glyph, numeral}

-- ---- digits

glyph_value : (d : ℕ) → d < 10 → digit_of (glyph d) ≡ d
glyph_value d below = grind (arith, nat_tests)

glyph_digit : (d : ℕ) → d < 10 → is_ascii_digit (glyph d) ≡ true
glyph_digit d below = grind (arith, nat_tests)

all_read : (ds : List ℕ) → AllBelowBase 10 ds → all_digits 10 (map glyph ds) ≡ true
all_read [] all = refl
all_read (d ∷ ds) all = rw (glyph_value d all.0, lt-ltb d 10 all.0, all_read ds all.1) refl

all_shown : (ds : List ℕ) → AllBelowBase 10 ds → list_all is_ascii_digit (map glyph ds) ≡ true
all_shown [] all = refl
all_shown (d ∷ ds) all = rw (glyph_digit d all.0, all_shown ds all.1) refl

-- the number that they stand for, behind one
value_after : (n : ℕ) (ds : List ℕ) → AllBelowBase 10 ds
    → fold (λ n c. n * 10 + digit_of c) n (map glyph ds) ≡ number_from_digits_after 10 n ds
value_after n [] all = refl
value_after n (d ∷ ds) all =
    ap (λ v. fold (λ n c. n * 10 + digit_of c) (n * 10 + v) (map glyph ds)) (glyph_value d all.0)
    ∙ value_after (n * 10 + d) ds all.1

digits_read : (ds : List ℕ) (n : ℕ) → AllBelowBase 10 ds → number_from_digits 10 ds ≡ n → 0 < get_or ds 0 0
    → n < 2 ^ 128 → digits_number 10 (map glyph ds) ≡ Ok n
unfolding digits_number
digits_read [] n all is some few = absurd (omega (arith, some))
digits_read (d ∷ ds) n all is some few =
    let value : value_of 10 (map glyph (d ∷ ds)) ≡ n = value_after 0 (d ∷ ds) all ∙ is in
    rw (all_read (d ∷ ds) all, value, lt-ltb n (2 ^ 128) few) refl

-- no letter names a base, since the first digit isn't 0
spelled : (ds : List ℕ) (n : ℕ) → AllBelowBase 10 ds → number_from_digits 10 ds ≡ n → 0 < get_or ds 0 0
    → n < 2 ^ 128 → number_spelled (map glyph ds) ≡ Ok n
unfolding number_spelled
spelled [] n all is some few = absurd (omega (arith, some))
spelled (d ∷ []) n all is some few = digits_read (d ∷ []) n all is some few
spelled (d ∷ e ∷ ds) n all is some few =
    let first : 0 < d = some in
    let other : (glyph d == 48) ≡ false = grind (arith, nat_tests, first) in
    rw other (digits_read (d ∷ e ∷ ds) n all is some few)

-- ---- numbers

some_digits : (m : ℕ) → decimal (suc m) ≡ map glyph (digits_of 10 (suc m))
unfolding numeral
some_digits m =
    let other : (suc m == 0) ≡ false = grind (arith, nat_tests) in
    rw other refl

pub decimal_read : (n : ℕ) → n < 2 ^ 128 → number_spelled (decimal n) ≡ Ok n
unfolding number_spelled numeral digits_number
decimal_read zero few = refl
decimal_read (suc m) few =
    ap number_spelled (some_digits m)
    ∙ spelled (digits_of 10 (suc m)) (suc m) (all_below_base_digits_of 10 (suc m) (lit≤ tt))
    (number_digits_of 10 (suc m) (lit≤ tt)) (first_digits_of 10 (suc m) (lit≤ tt) (omega arith)) few

-- its bytes are digits
pub decimal_shown : (n : ℕ) → list_all is_ascii_digit (decimal n) ≡ true
unfolding numeral
decimal_shown zero = refl
decimal_shown (suc m) =
    ap (list_all is_ascii_digit) (some_digits m)
    ∙ all_shown (digits_of 10 (suc m)) (all_below_base_digits_of 10 (suc m) (lit≤ tt))

some_first : (ds : List ℕ) → 0 < get_or ds 0 0 → 0 < length ds
some_first [] some = absurd (omega (arith, some))
some_first (d ∷ ds) some = omega arith

-- it has one byte at least
pub decimal_some : (n : ℕ) → 0 < length (decimal n)
unfolding numeral
decimal_some zero = lit≤ tt
decimal_some (suc m) =
    let ds = digits_of 10 (suc m) in
    let first = first_digits_of 10 (suc m) (lit≤ tt) (omega arith) in
    omega (arith, length-map ds glyph, ap length (some_digits m), some_first ds first)

-- a number of 64 bits has at most twenty
pub decimal_short : (n : ℕ) → n < 2 ^ 64 → length (decimal n) ≤ 20
unfolding numeral
decimal_short zero few = lit≤ tt
decimal_short (suc m) few =
    let most : 2 ^ 64 ≤ 10 ^ 20 = lit≤ tt in
    let digits : length (digits_of 10 (suc m)) ≤ 20 =
    length-digits_of-le 10 20 (suc m) (lit≤ tt) (omega (arith, few, most)) in
    omega (arith, length-map (digits_of 10 (suc m)) glyph, ap length (some_digits m))
