-- The tokens of a printed line: a word, and numbers behind blanks.
use Rattle.std.proofs.Common.{◌≡◌, ℕ, suc, ◌+◌, ◌-◌, ◌*◌, ◌<◌, ◌≤◌, ◌^◌, List, [], ◌∷◌, ◌++◌, take, length, true, false}
use Rattle.std.proofs.Common.{◌==◌, Ok, lit≤, zero-add, length-append, refl, sym, ap, ap₂, ◌∙◌, subst, arith}
use Rattle.std.specs.Prelude.{nat_lt}
use Rattle.std.specs.Char.{is_ascii_digit}
use Rattle.std.specs.List.{flat_map, list_all}
use Rattle.std.proofs.Math.Seq.{take-append_seam}
use Rattle.std.proofs.lemmas.Bool.{and_parts, ltb-true}
use Rattle.std.proofs.lemmas.Bool.Decides.{nat_tests}
use Rattle.mw_base.specs.declared.token.Kind.TheVariants.{Name, Number}
use Rattle.mw_base.specs.declared.token.Token.{Token}
use Rattle.mw_base.specs.Literals.{number_spelled}
use Rattle.mw_base.specs.Names.{is_name_start, is_spelled_as_name, is_word_byte}
use Rattle.mw_base.specs.Numbers.{decimal}
use Rattle.mw_base.specs.Pieces.{number_of_word, piece_at, token_of, word_length}
use Rattle.mw_base.specs.Reading.{with_front}
use Rattle.mw_base.specs.Tokens.{piece_then, tokens_from}
use Rattle.mw_recheck.specs.LogPrinted.{have_64_bits, number_text}
use Rattle.mw_replay.proofs.Lines.{is_plain}
use Rattle.mw_replay.proofs.Sets.{both_plain}
use Rattle.mw_replay.proofs.Tokens.{Has, has_blank, has_name, other_byte, token, word_length_is}
use Rattle.mw_recheck.proofs.Decimals.{decimal_read, decimal_short, decimal_shown, decimal_some}

-- ---- one number

digit_word : (c : ℕ) → is_ascii_digit c ≡ true → is_word_byte c ≡ true
digit_word c is = grind (arith, nat_tests, is)

digits_word : (w : List ℕ) → list_all is_ascii_digit w ≡ true → list_all is_word_byte w ≡ true
digits_word [] all = refl
digits_word (c ∷ w) all =
    let parts = and_parts (is_ascii_digit c) (list_all is_ascii_digit w) all in
    rw (digit_word c parts.0, digits_word w parts.1) refl

no_name : (c : ℕ) → is_ascii_digit c ≡ true → is_name_start c ≡ false
no_name c is = grind (arith, nat_tests, is)

-- digits that spell a number are one piece
digits_piece : (n c : ℕ) (w rest : List ℕ) → list_all is_ascii_digit (c ∷ w) ≡ true → number_spelled (c ∷ w) ≡ Ok n
    → word_length rest ≡ 0 → piece_at c (c ∷ w ++ rest) ≡ Ok (token_of (Number n) (suc (length w)))
unfolding piece_at
digits_piece n c w rest all is stops =
    let digit = (and_parts (is_ascii_digit c) (list_all is_ascii_digit w) all).0 in
    let blank : (c == 32) ≡ false = other_byte is_ascii_digit c 32 digit refl in
    let tab : (c == 9) ≡ false = other_byte is_ascii_digit c 9 digit refl in
    let comment : (c == 59) ≡ false = other_byte is_ascii_digit c 59 digit refl in
    let line = c ∷ w ++ rest in
    let size : word_length line ≡ suc (length w) = word_length_is (c ∷ w) rest (digits_word (c ∷ w) all) stops in
    let whole : take (word_length line) line ≡ c ∷ w =
    ap (λ k. take k line) size ∙ take-append_seam (c ∷ w) rest in
    let one : piece_at c line ≡ number_of_word (number_spelled (take (word_length line) line)) (word_length line) =
    rw (blank, tab, comment, no_name c digit, digit) refl in
    one ∙ ap₂ number_of_word (ap number_spelled whole ∙ is) size

-- the bytes of a piece are passed over
passed : (number start at : ℕ) (w rest : List ℕ)
    → tokens_from number start at (length w) (w ++ rest) ≡ tokens_from number start (at + length w) 0 rest
unfolding tokens_from
passed number start at [] rest =
    let place : at ≡ at + 0 = omega arith in
    ap (λ k. tokens_from number start k 0 rest) place
passed number start at (c ∷ w) rest =
    let place : at + 1 + length w ≡ at + suc (length w) = omega arith in
    passed number start (at + 1) w rest ∙ ap (λ k. tokens_from number start k 0 rest) place

has_digits : (number start at n : ℕ) (text rest : List ℕ) (tokens : List Token) → 0 < length text
    → list_all is_ascii_digit text ≡ true → number_spelled text ≡ Ok n → word_length rest ≡ 0
    → Has number start (at + length text) rest tokens
    → Has number start at (text ++ rest) (token number start at (Number n) (length text) ∷ tokens)
unfolding tokens_from
has_digits number start at n [] rest tokens some all is stops later = absurd (omega (arith, some))
has_digits number start at n (c ∷ w) rest tokens some all is stops later =
    let own = token number start at (Number n) (suc (length w)) ∷ [] in
    let fewer : suc (length w) - 1 ≡ length w = omega arith in
    let place : at + 1 + length w ≡ at + suc (length w) = omega arith in
    ap (λ p. piece_then number start at p (λ covered. tokens_from number start (at + 1) covered (w ++ rest)))
    (digits_piece n c w rest all is stops)
    ∙ ap (with_front own)
    (ap (λ covered. tokens_from number start (at + 1) covered (w ++ rest)) fewer
    ∙ passed number start (at + 1) w rest ∙ ap (λ k. tokens_from number start k 0 rest) place ∙ later)

-- ---- numbers behind blanks

-- the token of a number behind a blank
abbrev pub number_token : (number start at value : ℕ) → Token
number_token number start at value = token number start (at + 1) (Number value) (length (decimal value))

-- the place behind it
abbrev pub behind : (at value : ℕ) → ℕ
behind at value = at + 1 + length (decimal value)

abbrev pub number_tokens : (number start at : ℕ) → List ℕ → List Token
number_tokens number start at [] = []
number_tokens number start at (v ∷ vs) =
    number_token number start at v ∷ number_tokens number start (behind at v) vs

below_wide : (v : ℕ) → v < 2 ^ 64 → v < 2 ^ 128
below_wide v few =
    let most : 2 ^ 64 ≤ 2 ^ 128 = lit≤ tt in
    omega (arith, few, most)

numbers_stop : (vs : List ℕ) → word_length (flat_map number_text vs) ≡ 0
numbers_stop [] = refl
numbers_stop (v ∷ vs) = refl

has_numbers : (number start at : ℕ) (vs : List ℕ) → have_64_bits vs ≡ true
    → Has number start at (flat_map number_text vs) (number_tokens number start at vs)
unfolding tokens_from
has_numbers number start at [] few = refl
has_numbers number start at (v ∷ vs) few =
    let parts = and_parts (nat_lt v (2 ^ 64)) (have_64_bits vs) few in
    let small = below_wide v (ltb-true v (2 ^ 64) parts.0) in
    has_blank number start at (decimal v ++ flat_map number_text vs) _
    (has_digits number start (at + 1) v (decimal v) (flat_map number_text vs) _ (decimal_some v) (decimal_shown v)
    (decimal_read v small) (numbers_stop vs) (has_numbers number start (behind at v) vs parts.1))

-- ---- a word before them

abbrev pub numbers_bytes : (word numbers : List ℕ) → List ℕ
numbers_bytes word numbers = word ++ flat_map number_text numbers

abbrev pub line_tokens : (number start : ℕ) (word numbers : List ℕ) → List Token
line_tokens number start word numbers =
    token number start 0 Name (length word) ∷ number_tokens number start (length word) numbers

pub has_line : (number start : ℕ) (word numbers : List ℕ) → is_spelled_as_name word ≡ true → have_64_bits numbers ≡ true
    → Has number start 0 (numbers_bytes word numbers) (line_tokens number start word numbers)
has_line number start word numbers is few =
    has_name number start 0 word (flat_map number_text numbers) _ is (numbers_stop numbers)
    (subst (λ at. Has number start at (flat_map number_text numbers) (number_tokens number start (length word) numbers))
    (sym (zero-add (length word))) (has_numbers number start (length word) numbers few))

-- ---- its bytes

digit_plain : (c : ℕ) → is_ascii_digit c ≡ true → is_plain c ≡ true
digit_plain c is = grind (arith, nat_tests, is)

digits_plain : (w : List ℕ) → list_all is_ascii_digit w ≡ true → list_all is_plain w ≡ true
digits_plain [] all = refl
digits_plain (c ∷ w) all =
    let parts = and_parts (is_ascii_digit c) (list_all is_ascii_digit w) all in
    rw (digit_plain c parts.0, digits_plain w parts.1) refl

numbers_plain : (vs : List ℕ) → list_all is_plain (flat_map number_text vs) ≡ true
numbers_plain [] = refl
numbers_plain (v ∷ vs) =
    both_plain (decimal v) (flat_map number_text vs) (digits_plain (decimal v) (decimal_shown v)) (numbers_plain vs)

pub line_plain : (word numbers : List ℕ) → list_all is_plain word ≡ true
    → list_all is_plain (numbers_bytes word numbers) ≡ true
line_plain word numbers plain = both_plain word (flat_map number_text numbers) plain (numbers_plain numbers)

numbers_short : (vs : List ℕ) → have_64_bits vs ≡ true → length (flat_map number_text vs) ≤ 21 * length vs
numbers_short [] few = omega arith
numbers_short (v ∷ vs) few =
    let parts = and_parts (nat_lt v (2 ^ 64)) (have_64_bits vs) few in
    let later = numbers_short vs parts.1 in
    omega (
      arith,
      length-append (decimal v) (flat_map number_text vs),
      decimal_short v (ltb-true v (2 ^ 64) parts.0),
      later,
    )

pub line_short : (word numbers : List ℕ) → length word ≤ 8 → length numbers ≤ 4 → have_64_bits numbers ≡ true
    → length (numbers_bytes word numbers) ≤ 4096
line_short word numbers short four few =
    omega (arith, short, four, length-append word (flat_map number_text numbers), numbers_short numbers few)
