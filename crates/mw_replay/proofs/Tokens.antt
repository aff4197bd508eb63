-- The tokens of what a line is printed of: names, numbers, points and blanks.
use Rattle.std.proofs.Common.{◌≡◌, ℕ, suc, ◌+◌, ◌-◌, ◌<◌, ◌^◌, List, [], ◌∷◌, ◌++◌, map, take, length, Bool, true}
use Rattle.std.proofs.Common.{false, cond, ◌==◌, Option, Some, None, Ok, refl, ap, ap₂, ◌∙◌, subst, arith}
use Rattle.std.specs.Prelude.{All}
use Rattle.std.specs.List.{flat_map, list_all}
use Rattle.std.proofs.Math.Seq.{take-append_seam}
use Rattle.std.proofs.lemmas.Bool.{and_parts}
use Rattle.std.proofs.lemmas.Bool.Decides.{nat_tests}
use Rattle.std.proofs.lemmas.List.Elements.{All-tail}
use Rattle.mw_base.specs.declared.cursor.Numeral.{Numeral}
use Rattle.mw_base.specs.declared.token.Kind.{Kind}
use Rattle.mw_base.specs.declared.token.Kind.TheVariants.{Name, Number, Sign}
use Rattle.mw_base.specs.declared.token.Token.{Token}
use Rattle.mw_base.specs.Literals.{number_spelled}
use Rattle.mw_base.specs.Names.{are_word_bytes, is_name_start, is_spelled_as_name, is_word_byte}
use Rattle.mw_base.specs.Numbers.{hex, numeral}
use Rattle.mw_base.specs.Pieces.{number_of_word, piece_at, token_of, word_length}
use Rattle.mw_base.specs.Reading.{with_front}
use Rattle.mw_base.specs.Signs.{sign_of}
use Rattle.mw_base.specs.Tokens.{piece_then, token_at, tokens_from}
use Rattle.mw_replay.specs.CounterPrinted.{value_text}
use Rattle.mw_replay.proofs.Spelled.{digits_are_words, hex_read}

-- ---- bytes

-- a byte that passes a test isn't one that doesn't
other_on : (test : ℕ → Bool) (c k : ℕ) (b : Bool) → (c == k) ≡ b → test c ≡ true → test k ≡ false → (c == k) ≡ false
other_on test c k true is passes fails =
    let same : c ≡ k = grind (arith, nat_tests) in
    absurd (let both : test k ≡ true = subst (λ n. test n ≡ true) same passes in cc)
other_on test c k false is passes fails = is

pub other_byte : (test : ℕ → Bool) (c k : ℕ) → test c ≡ true → test k ≡ false → (c == k) ≡ false
other_byte test c k passes fails = other_on test c k (c == k) refl passes fails

pub word_start : (c : ℕ) → is_name_start c ≡ true → is_word_byte c ≡ true
word_start c is = rw is refl

-- a word ends where no byte of one follows
pub word_length_is : (w rest : List ℕ) → list_all is_word_byte w ≡ true → word_length rest ≡ 0
    → word_length (w ++ rest) ≡ length w
word_length_is [] rest all stops = stops
word_length_is (c ∷ w) rest all stops =
    let parts = and_parts (is_word_byte c) (list_all is_word_byte w) all in
    let one : 1 + length w ≡ suc (length w) = omega arith in
    ap (λ b. cond b (1 + word_length (w ++ rest)) 0) parts.0
    ∙ ap (λ n. 1 + n) (word_length_is w rest parts.1 stops) ∙ one

-- ---- pieces

-- these bytes of a line, of this number and from this place of the text, have these tokens from a place of the line on
abbrev pub Has : (number start at : ℕ) → List ℕ → List Token → Type 0
Has number start at bytes tokens = tokens_from number start at 0 bytes ≡ Ok tokens

-- a token of so many bytes
abbrev pub token : (number start at : ℕ) → Kind → ℕ → Token
token number start at kind n = record {
  kind = kind;
  line = number;
  column = at + 1;
  start = start + at;
  end = start + at + n;
}

passed : (number start at : ℕ) (w rest : List ℕ)
    → tokens_from number start at (length w) (w ++ rest) ≡ tokens_from number start (at + length w) 0 rest
unfolding tokens_from
passed number start at [] rest =
    let place : at ≡ at + 0 = omega arith in
    ap (λ k. tokens_from number start k 0 rest) place
passed number start at (c ∷ w) rest =
    let place : at + 1 + length w ≡ at + suc (length w) = omega arith in
    passed number start (at + 1) w rest ∙ ap (λ k. tokens_from number start k 0 rest) place

has_piece : (number start at c : ℕ) (w rest : List ℕ) (kind : Option Kind) (tokens : List Token)
    → piece_at c (c ∷ (w ++ rest)) ≡ Ok (record { kind = kind; length = suc (length w) })
    → Has number start (at + suc (length w)) rest tokens
    → Has number start at (c ∷ (w ++ rest)) (token_at number start at kind (suc (length w)) ++ tokens)
unfolding tokens_from
has_piece number start at c w rest kind tokens is later =
    let fewer : suc (length w) - 1 ≡ length w = omega arith in
    let place : at + 1 + length w ≡ at + suc (length w) = omega arith in
    ap (λ p. piece_then number start at p (λ covered. tokens_from number start (at + 1) covered (w ++ rest))) is
    ∙ ap (with_front (token_at number start at kind (suc (length w))))
    (ap (λ covered. tokens_from number start (at + 1) covered (w ++ rest)) fewer
    ∙ passed number start (at + 1) w rest ∙ ap (λ k. tokens_from number start k 0 rest) place ∙ later)

pub has_blank : (number start at : ℕ) (rest : List ℕ) (tokens : List Token) → Has number start (at + 1) rest tokens
    → Has number start at (32 ∷ rest) tokens
unfolding piece_at
has_blank number start at rest tokens later = has_piece number start at 32 [] rest None tokens refl later

pub has_point : (number start at x : ℕ) (rest : List ℕ) (tokens : List Token)
    → Has number start (at + 1) (x ∷ rest) tokens
    → Has number start at (46 ∷ x ∷ rest) (token number start at Sign 1 ∷ tokens)
unfolding piece_at sign_of
has_point number start at x rest tokens later =
    has_piece number start at 46 [] (x ∷ rest) (Some Sign) tokens refl later

name_piece : (c : ℕ) (w rest : List ℕ) → is_name_start c ≡ true → list_all is_word_byte w ≡ true
    → word_length rest ≡ 0
    → piece_at c (c ∷ (w ++ rest)) ≡ Ok (record { kind = Some Name; length = suc (length w) })
unfolding piece_at
name_piece c w rest start all stops =
    let blank : (c == 32) ≡ false = other_byte is_name_start c 32 start refl in
    let tab : (c == 9) ≡ false = other_byte is_name_start c 9 start refl in
    let comment : (c == 59) ≡ false = other_byte is_name_start c 59 start refl in
    let both : list_all is_word_byte (c ∷ w) ≡ true = rw (word_start c start, all) refl in
    let size = word_length_is (c ∷ w) rest both stops in
    let line = c ∷ (w ++ rest) in
    let one : piece_at c line ≡ Ok (token_of Name (word_length line)) = rw (blank, tab, comment, start) refl in
    one ∙ ap (λ n. Ok (token_of Name n)) size

pub has_name : (number start at : ℕ) (w rest : List ℕ) (tokens : List Token) → is_spelled_as_name w ≡ true
    → word_length rest ≡ 0 → Has number start (at + length w) rest tokens
    → Has number start at (w ++ rest) (token number start at Name (length w) ∷ tokens)
has_name number start at [] rest tokens is stops later = absurd cc
has_name number start at (c ∷ w) rest tokens is stops later =
    let parts = and_parts (is_name_start c) (are_word_bytes w) is in
    has_piece number start at c w rest (Some Name) tokens (name_piece c w rest parts.0 parts.1 stops) later

number_piece : (n : ℕ) (rest : List ℕ) → n < 2 ^ 128 → word_length rest ≡ 0
    → piece_at 48 (hex n ++ rest) ≡ Ok (record { kind = Some (Number n); length = length (hex n) })
unfolding piece_at
number_piece n rest few stops =
    let size : word_length (hex n ++ rest) ≡ length (hex n) =
    word_length_is (hex n) rest (digits_are_words n) stops in
    let whole : take (word_length (hex n ++ rest)) (hex n ++ rest) ≡ hex n =
    ap (λ k. take k (hex n ++ rest)) size ∙ take-append_seam (hex n) rest in
    ap₂ number_of_word (ap number_spelled whole ∙ hex_read n few) size

pub has_number : (number start at n : ℕ) (rest : List ℕ) (tokens : List Token) → n < 2 ^ 128 → word_length rest ≡ 0
    → Has number start (at + length (hex n)) rest tokens
    → Has number start at (hex n ++ rest) (token number start at (Number n) (length (hex n)) ∷ tokens)
has_number number start at n rest tokens few stops later =
    has_piece number start at 48 (120 ∷ numeral 16 n) rest (Some (Number n)) tokens (number_piece n rest few stops)
    later

-- ---- values behind blanks

-- the numbers that they are
abbrev pub numerals : (number start at : ℕ) → List ℕ → List Numeral
numerals number start at [] = []
numerals number start at (v ∷ vs) =
    record { token = token number start (at + 1) (Number v) (length (hex v)); value = v }
    ∷ numerals number start (at + 1 + length (hex v)) vs

pub values_stop : (vs : List ℕ) → word_length (flat_map value_text vs) ≡ 0
values_stop [] = refl
values_stop (v ∷ vs) = refl

pub has_values : (number start at : ℕ) (vs : List ℕ) → All (λ v. v < 2 ^ 128) vs
    → Has number start at (flat_map value_text vs)
    (map (λ (numeral : Numeral). numeral.token) (numerals number start at vs))
unfolding tokens_from
has_values number start at [] all = refl
has_values number start at (v ∷ vs) all =
    has_blank number start at (hex v ++ flat_map value_text vs) _
    (has_number number start (at + 1) v (flat_map value_text vs) _ (all 0 v (omega arith)) (values_stop vs)
    (has_values number start (at + 1 + length (hex v)) vs (All-tail (λ v. v < 2 ^ 128) v vs all)))
