-- Numbers as they are printed are read back.
use Rattle.std.proofs.Common.{◌≡◌, ℕ, zero, suc, ◌+◌, ◌*◌, ◌<◌, ◌≤◌, ◌^◌, List, [], ◌∷◌, map, length, true, false, ◌==◌}
use Rattle.std.proofs.Common.{Ok, lit≤, refl, ap, ◌∙◌, subst, arith}
use Rattle.std.specs.Int.Digits.{digits_of, number_from_digits, number_from_digits_after, AllBelowBase}
use Rattle.std.specs.List.{list_all, fold}
use Rattle.std.proofs.lemmas.Bool.{lt-ltb}
use Rattle.std.proofs.lemmas.Bool.Decides.{nat_tests}
use Rattle.std.proofs.lemmas.Int.Digits.{all_below_base_digits_of, length-digits_of-le, number_digits_of}
use Rattle.std.proofs.lemmas.List.{length-map}
use Rattle.mw_base.specs.Literals.{all_digits, digit_of, digits_number, number_spelled, value_of}
use Rattle.mw_base.specs.Names.{is_word_byte}
use Rattle.mw_base.specs.Numbers.{glyph, hex, numeral}

-- ---- digits

-- the sixteen glyphs
glyph_value : (d : ℕ) → d < 16 → digit_of (glyph d) ≡ d
glyph_value d below = grind (arith, nat_tests)

glyph_word : (d : ℕ) → d < 16 → is_word_byte (glyph d) ≡ true
glyph_word d below = grind (arith, nat_tests)

glyphs_are_digits : (ds : List ℕ) → AllBelowBase 16 ds → all_digits 16 (map glyph ds) ≡ true
glyphs_are_digits [] all = refl
glyphs_are_digits (d ∷ ds) all = rw (glyph_value d all.0, lt-ltb d 16 all.0, glyphs_are_digits ds all.1) refl

glyphs_are_words : (ds : List ℕ) → AllBelowBase 16 ds → list_all is_word_byte (map glyph ds) ≡ true
glyphs_are_words [] all = refl
glyphs_are_words (d ∷ ds) all = rw (glyph_word d all.0, glyphs_are_words ds all.1) refl

-- the number that they stand for, behind one
value_after : (n : ℕ) (ds : List ℕ) → AllBelowBase 16 ds
    → fold (λ n c. n * 16 + digit_of c) n (map glyph ds) ≡ number_from_digits_after 16 n ds
value_after n [] all = refl
value_after n (d ∷ ds) all =
    ap (λ v. fold (λ n c. n * 16 + digit_of c) (n * 16 + v) (map glyph ds)) (glyph_value d all.0)
    ∙ value_after (n * 16 + d) ds all.1

digits_read : (ds : List ℕ) (n : ℕ) → AllBelowBase 16 ds → number_from_digits 16 ds ≡ n → 0 < n → n < 2 ^ 128
    → digits_number 16 (map glyph ds) ≡ Ok n
unfolding digits_number
digits_read [] n all is some few = absurd (omega arith)
digits_read (d ∷ ds) n all is some few =
    let value : value_of 16 (map glyph (d ∷ ds)) ≡ n = value_after 0 (d ∷ ds) all ∙ is in
    rw (glyphs_are_digits (d ∷ ds) all, value, lt-ltb n (2 ^ 128) few) refl

-- ---- numbers

some_digits : (n : ℕ) → 0 < n → numeral 16 n ≡ map glyph (digits_of 16 n)
unfolding numeral
some_digits n some =
    let other : (n == 0) ≡ false = grind (arith, nat_tests) in
    rw other refl

pub hex_read : (n : ℕ) → n < 2 ^ 128 → number_spelled (hex n) ≡ Ok n
unfolding number_spelled numeral digits_number
hex_read zero few = refl
hex_read (suc n) few =
    ap (digits_number 16) (some_digits (suc n) (omega arith))
    ∙ digits_read (digits_of 16 (suc n)) (suc n) (all_below_base_digits_of 16 (suc n) (lit≤ tt))
    (number_digits_of 16 (suc n) (lit≤ tt)) (omega arith) few

-- its bytes behind the first two
pub digits_are_words : (n : ℕ) → list_all is_word_byte (numeral 16 n) ≡ true
unfolding numeral
digits_are_words zero = refl
digits_are_words (suc n) =
    ap (list_all is_word_byte) (some_digits (suc n) (omega arith))
    ∙ glyphs_are_words (digits_of 16 (suc n)) (all_below_base_digits_of 16 (suc n) (lit≤ tt))

-- a number of 32 bits has at most ten
pub hex_short : (n : ℕ) → n < 2 ^ 32 → length (hex n) ≤ 10
unfolding numeral
hex_short zero few = lit≤ tt
hex_short (suc n) few =
    let same : 2 ^ 32 ≡ 16 ^ 8 = refl in
    let digits : length (digits_of 16 (suc n)) ≤ 8 =
    length-digits_of-le 16 8 (suc n) (lit≤ tt) (subst (λ bound. suc n < bound) same few) in
    omega (arith, length-map (digits_of 16 (suc n)) glyph, ap length (some_digits (suc n) (omega arith)))
