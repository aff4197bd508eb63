-- Printed numbers are spelled.
use Rattle.std.proofs.Common.{◌≡◌, ℕ, suc, ◌+◌, ◌*◌, ◌^◌, ◌<◌, ◌≤◌, ◌==◌, nat_lt, List, [], ◌∷◌, map, Bool, true, false}
use Rattle.std.proofs.Common.{Ok, refl, sym, ap, ◌∙◌}
use Rattle.std.proofs.Common.{zero, arith, length, get_or, nat_le, subst, cond}
use Rattle.std.specs.Str.{IsAscii, IsUtf8}
use Rattle.std.proofs.lemmas.Bool.{and_parts, or_from}
use Rattle.std.proofs.lemmas.Str.{IsUtf8-from_ascii}
use Rattle.mw_base.specs.Names.{is_name_start, is_word_byte, are_word_bytes, is_spelled_as_name, is_name}
use Rattle.std.specs.List.{list_any, fold}
use Rattle.std.specs.Int.Digits.{digits_of, number_from_digits_after, number_from_digits, AllBelowBase}
use Rattle.std.proofs.lemmas.Bool.Decides.{nat_tests}
use Rattle.std.proofs.lemmas.Int.Digits.{all_below_base_digits_of, number_digits_of, first_digits_of}
use Rattle.mw_base.specs.Literals.{digit_of, all_digits, value_of, digits_number, number_spelled}
use Rattle.mw_base.specs.Numbers.{glyph, numeral, hex, decimal}

digit_glyph : (d : ℕ) → d < 16 → digit_of (glyph d) ≡ d
digit_glyph d h = grind (arith, nat_tests, h)

all_spelled : (base : ℕ) (ds : List ℕ) → base ≤ 16 → AllBelowBase base ds → all_digits base (map glyph ds) ≡ true
all_spelled base [] few below = refl
all_spelled base (d ∷ ds) few below =
    let h : d < base = below.0 in
    let small : d < 16 = omega (arith, h, few) in
    let test : nat_lt d base ≡ true = grind (arith, nat_tests, h) in
    rw (digit_glyph d small, test, all_spelled base ds few below.1) refl

value_spelled : (base n : ℕ) (ds : List ℕ) → base ≤ 16 → AllBelowBase base ds
    → fold (λ m c. m * base + digit_of c) n (map glyph ds) ≡ number_from_digits_after base n ds
value_spelled base n [] few below = refl
value_spelled base n (d ∷ ds) few below =
    let h : d < base = below.0 in
    let small : d < 16 = omega (arith, h, few) in
    ap (λ (digit : ℕ). fold (λ m c. m * base + digit_of c) (n * base + digit) (map glyph ds)) (digit_glyph d small)
    ∙ value_spelled base (n * base + d) ds few below.1

digits_spelled : (base n : ℕ) (ds : List ℕ) → base ≤ 16 → n < 2 ^ 128 → 0 < get_or ds 0 0 → AllBelowBase base ds
    → number_from_digits base ds ≡ n → digits_number base (map glyph ds) ≡ Ok n
unfolding digits_number
digits_spelled base n [] few small some below is = absurd (omega (arith, some))
digits_spelled base n (d ∷ ds) few small some below is =
    let value : value_of base (map glyph (d ∷ ds)) ≡ n = value_spelled base 0 (d ∷ ds) few below ∙ is in
    let test : nat_lt n (2 ^ 128) ≡ true = grind (arith, nat_tests, small) in
    rw (all_spelled base (d ∷ ds) few below, value, test) refl

-- a number above 0 isn't 0
pub above_zero : (m : ℕ) → (suc m == 0) ≡ false
above_zero m = grind (arith, nat_tests)

-- the numeral of one
numeral_above : (base m : ℕ) → numeral base (suc m) ≡ map glyph (digits_of base (suc m))
unfolding numeral
numeral_above base m = ap (λ (b : Bool). cond b (48 ∷ []) (map glyph (digits_of base (suc m)))) (above_zero m)

zero_spelled : number_spelled (hex 0) ≡ Ok 0
unfolding number_spelled numeral digits_number
zero_spelled = refl

-- a number of 128 bits, in hexadecimal
pub hex_spelled : (n : ℕ) → n < 2 ^ 128 → number_spelled (hex n) ≡ Ok n
unfolding number_spelled
hex_spelled zero small = zero_spelled
hex_spelled (suc m) small =
    ap (digits_number 16) (numeral_above 16 m)
    ∙ digits_spelled 16 (suc m) (digits_of 16 (suc m)) (omega arith) small
    (first_digits_of 16 (suc m) (omega arith) (omega arith))
    (all_below_base_digits_of 16 (suc m) (omega arith)) (number_digits_of 16 (suc m) (omega arith))

decimal_zero : number_spelled (decimal 0) ≡ Ok 0
unfolding number_spelled numeral digits_number
decimal_zero = refl

numeral_spelled : (n : ℕ) (ds : List ℕ) → n < 2 ^ 128 → 0 < get_or ds 0 0 → AllBelowBase 10 ds
    → number_from_digits 10 ds ≡ n → number_spelled (map glyph ds) ≡ Ok n
unfolding number_spelled
numeral_spelled n [] small some below is = absurd (omega (arith, some))
numeral_spelled n (d ∷ []) small some below is = digits_spelled 10 n (d ∷ []) (omega arith) small some below is
numeral_spelled n (d ∷ e ∷ rest) small some below is =
    let first : 0 < d = some in
    let other : (glyph d == 48) ≡ false = grind (arith, nat_tests, first) in
    rw other (digits_spelled 10 n (d ∷ e ∷ rest) (omega arith) small some below is)

-- a number of 128 bits, in decimal
pub decimal_spelled : (n : ℕ) → n < 2 ^ 128 → number_spelled (decimal n) ≡ Ok n
decimal_spelled zero small = decimal_zero
decimal_spelled (suc m) small =
    ap number_spelled (numeral_above 10 m)
    ∙ numeral_spelled (suc m) (digits_of 10 (suc m)) small (first_digits_of 10 (suc m) (omega arith) (omega arith))
    (all_below_base_digits_of 10 (suc m) (omega arith)) (number_digits_of 10 (suc m) (omega arith))

-- ---- texts

ascii_more : (c : ℕ) (rest : List ℕ) → c < 128 → IsAscii rest → IsAscii (c ∷ rest)
ascii_more c rest here others zero = here
ascii_more c rest here others (suc i) = others i

ascii_digits : (base : ℕ) (ds : List ℕ) → base ≤ 16 → AllBelowBase base ds → IsAscii (map glyph ds)
ascii_digits base [] few below i = omega arith
ascii_digits base (d ∷ ds) few below i =
    let h : d < base = below.0 in
    let small : d < 16 = omega (arith, h, few) in
    let here : glyph d < 128 = grind (arith, nat_tests, small) in
    ascii_more (glyph d) (map glyph ds) here (ascii_digits base ds few below.1) i

after_prefix : (rest : List ℕ) → IsAscii rest → IsAscii (48 ∷ 120 ∷ rest)
after_prefix rest others =
    ascii_more 48 (120 ∷ rest) (omega arith) (ascii_more 120 rest (omega arith) others)

zero_text : IsUtf8 (hex 0)
unfolding numeral
zero_text =
    IsUtf8-from_ascii (48 ∷ 120 ∷ 48 ∷ []) (after_prefix (48 ∷ []) (ascii_more 48 [] (omega arith) (λ i. omega arith)))

-- a printed number is a text
pub hex_text : (n : ℕ) → IsUtf8 (hex n)
hex_text zero = zero_text
hex_text (suc m) =
    subst IsUtf8 (ap (λ (digits : List ℕ). 48 ∷ 120 ∷ digits) (sym (numeral_above 16 m)))
    (IsUtf8-from_ascii (48 ∷ 120 ∷ map glyph (digits_of 16 (suc m)))
    (after_prefix (map glyph (digits_of 16 (suc m)))
    (ascii_digits 16 (digits_of 16 (suc m)) (omega arith) (all_below_base_digits_of 16 (suc m) (omega arith)))))

decimal_zero_text : IsUtf8 (decimal 0)
unfolding numeral
decimal_zero_text = IsUtf8-from_ascii (48 ∷ []) (ascii_more 48 [] (omega arith) (λ i. omega arith))

pub decimal_text : (n : ℕ) → IsUtf8 (decimal n)
decimal_text zero = decimal_zero_text
decimal_text (suc m) =
    subst IsUtf8 (sym (numeral_above 10 m))
    (IsUtf8-from_ascii (map glyph (digits_of 10 (suc m)))
    (ascii_digits 10 (digits_of 10 (suc m)) (omega arith) (all_below_base_digits_of 10 (suc m) (omega arith))))

word_ascii : (c : ℕ) → is_word_byte c ≡ true → c < 128
word_ascii c is = grind (arith, nat_tests, is)

words_ascii : (text : List ℕ) → are_word_bytes text ≡ true → IsAscii text
words_ascii [] are i = omega arith
words_ascii (c ∷ rest) are i =
    let both = and_parts (is_word_byte c) (are_word_bytes rest) are in
    ascii_more c rest (word_ascii c both.0) (words_ascii rest both.1) i

-- a name is a text
pub name_text : (name : List ℕ) → is_name name ≡ true → IsUtf8 name
unfolding is_name
name_text [] is = cc
name_text (c ∷ rest) is =
    let spelled = and_parts (is_spelled_as_name (c ∷ rest)) (nat_le (length (c ∷ rest)) 64) is in
    let both = and_parts (is_name_start c) (are_word_bytes rest) spelled.0 in
    let first : is_word_byte c ≡ true = rw both.0 refl in
    IsUtf8-from_ascii (c ∷ rest) (ascii_more c rest (word_ascii c first) (words_ascii rest both.1))

words_plain : (text : List ℕ) → are_word_bytes text ≡ true → list_any (λ c. c == 38) text ≡ false
words_plain [] are = refl
words_plain (c ∷ rest) are =
    let both = and_parts (is_word_byte c) (are_word_bytes rest) are in
    let here : (c == 38) ≡ false = grind (arith, nat_tests, both.0) in
    or_from (c == 38) (list_any (λ d. d == 38) rest) here (words_plain rest both.1)

-- in a name there is no & (38)
pub name_plain : (name : List ℕ) → is_name name ≡ true → list_any (λ c. c == 38) name ≡ false
unfolding is_name
name_plain [] is = refl
name_plain (c ∷ rest) is =
    let spelled = and_parts (is_spelled_as_name (c ∷ rest)) (nat_le (length (c ∷ rest)) 64) is in
    let both = and_parts (is_name_start c) (are_word_bytes rest) spelled.0 in
    let first : is_word_byte c ≡ true = rw both.0 refl in
    let here : (c == 38) ≡ false = grind (arith, nat_tests, first) in
    or_from (c == 38) (list_any (λ d. d == 38) rest) here (words_plain rest both.1)
