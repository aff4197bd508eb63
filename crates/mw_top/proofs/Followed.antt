-- What a difference of a job reads as may stand behind the word of a line `difference ..`.
use Rattle.std.proofs.Common.{◌≡◌, ℕ, zero, suc, ◌+◌, ◌*◌, ◌-◌, ◌<◌, ◌≤◌, ◌^◌, List, [], ◌∷◌, ◌++◌, codes, map, take}
use Rattle.std.proofs.Common.{length, slice_get, slice_index_or, Bool, true, false, cond, ◌==◌, Option, Some, None, Ok}
use Rattle.std.proofs.Common.{lit≤, append-nil, refl, sym, ap, ap₂, ◌∙◌, subst, inl, inr, arith}
use Rattle.std.specs.Prelude.{All, nat_le, unwrap_or}
use Rattle.std.specs.Char.{is_ascii_digit}
use Rattle.std.specs.Int.Digits.{AllBelowBase, digits_of, number_from_digits, number_from_digits_after}
use Rattle.std.specs.List.{fold, list_all}
use Rattle.std.proofs.lemmas.Bool.{and_parts, cases_lt, le-ltb, lt-ltb}
use Rattle.std.proofs.lemmas.Bool.Decides.{nat_tests}
use Rattle.std.proofs.lemmas.Int.Digits.{all_below_base_digits_of, length-digits_of-le, number_digits_of}
use Rattle.std.proofs.lemmas.List.{length-map, take_all}
use Rattle.std.proofs.lemmas.Option.{get_or_from_slice_get, slice_get_within}
use Rattle.mw_base.specs.declared.token.Kind.{Kind}
use Rattle.mw_base.specs.declared.token.Kind.TheVariants.{Name, Number}
use Rattle.mw_base.specs.declared.token.Token.{Token}
use Rattle.mw_base.specs.Literals.{all_digits, base_named, digit_of, digits_number, number_marked, number_spelled}
use Rattle.mw_base.specs.Names.{is_name, is_name_start, is_spelled_as_name, is_word_byte}
use Rattle.mw_base.specs.Numbers.{decimal, glyph, hex, numeral}
use Rattle.mw_base.specs.Pieces.{number_of_word, piece_at, token_of, word_length}
use Rattle.mw_base.specs.Reading.{with_front}
use Rattle.mw_base.specs.Tokens.{piece_then, tokens_from}
use Rattle.mw_board.specs.declared.parts.BoardParts.{BoardParts}
use Rattle.mw_board.specs.Check.{check_of}
use Rattle.mw_board.specs.Elements.{element_count, element_name}
use Rattle.mw_rel.specs.declared.difference.Difference.TheVariants.{Late, Event, StackPointer, Element, Memory}
use Rattle.mw_rel.specs.Differs.{difference_of}
use Rattle.mw_rel.specs.Job.{Job, IsJob}
use Rattle.mw_rel.specs.Relation.{IsFormedBoundary, IsFormedLine}
use Rattle.mw_rel.specs.Start.{Start}
use Rattle.mw_rel.proofs.Elements.{widths_count}
use Rattle.mw_rel.proofs.Relations.{is_there}
use Rattle.mw_rel.proofs.Shown.{is_shown}
use Rattle.mw_ready.specs.Thinned.{thinned_start}
use Rattle.mw_ready.proofs.Differences.{differences_are_thinned}
use Rattle.mw_replay.specs.CounterPrinted.{MayFollow}
use Rattle.mw_replay.proofs.Lines.{is_plain}
use Rattle.mw_replay.proofs.Names.{all_each, board_count, board_name, board_names, board_spelled}
use Rattle.mw_replay.proofs.Sets.{both_plain, hex_plain, name_plain, word_plain}
use Rattle.mw_replay.proofs.Spelled.{hex_short}
use Rattle.mw_replay.proofs.Starts.{there}
use Rattle.mw_replay.proofs.Statements.{has_last}
use Rattle.mw_replay.proofs.Tokens.{Has, has_blank, has_name, has_point, token, word_length_is}
use Rattle.mw_top.specs.Laws.{DifferencesMayFollow}
use Rattle.mw_top.specs.Report.{difference_text, element_text}

-- ---- the last token of a line

-- nothing is left of a piece that ends a line
covered : (number start at : ℕ) (w : List ℕ) → tokens_from number start at (length w) w ≡ Ok []
unfolding tokens_from
covered number start at [] = refl
covered number start at (c ∷ w) = covered number start (at + 1) w

has_one : (number start at c : ℕ) (w : List ℕ) (kind : Kind)
    → piece_at c (c ∷ w) ≡ Ok (token_of kind (suc (length w)))
    → Has number start at (c ∷ w) (token number start at kind (suc (length w)) ∷ [])
unfolding tokens_from
has_one number start at c w kind is =
    let fewer : suc (length w) - 1 ≡ length w = omega arith in
    ap (λ piece. piece_then number start at piece (λ passed. tokens_from number start (at + 1) passed w)) is
    ∙ ap (with_front (token number start at kind (suc (length w)) ∷ []))
    (ap (λ passed. tokens_from number start (at + 1) passed w) fewer ∙ covered number start (at + 1) w)

has_last_name : (number start at : ℕ) (w : List ℕ) → is_spelled_as_name w ≡ true
    → Has number start at w (token number start at Name (length w) ∷ [])
unfolding tokens_from
has_last_name number start at w is =
    subst (λ bytes. Has number start at bytes (token number start at Name (length w) ∷ [])) (append-nil w)
    (has_name number start at w [] [] is refl refl)

-- ---- a decimal number

-- figures are read as the digits that they show, and stand in a word
record AreRead (n : ℕ) (digits : List ℕ) : Type 0 where
  figures : all_digits 10 (map glyph digits) ≡ true
  words : list_all is_word_byte (map glyph digits) ≡ true
  value : fold (λ n c. n * 10 + digit_of c) n (map glyph digits) ≡ number_from_digits_after 10 n digits

figure_value : (d : ℕ) → d < 10 → digit_of (glyph d) ≡ d
figure_value d below = grind (arith, nat_tests)

figure_word : (d : ℕ) → d < 10 → is_word_byte (glyph d) ≡ true
figure_word d below = grind (arith, nat_tests)

are_read : (n : ℕ) (digits : List ℕ) → AllBelowBase 10 digits → AreRead n digits
are_read n [] all = record { figures = refl; words = refl; value = refl }
are_read n (d ∷ rest) all =
    let value = figure_value d all.0 in
    let behind = are_read (n * 10 + d) rest all.1 in
    record {
      figures = rw (value, lt-ltb d 10 all.0, behind.figures) refl;
      words = rw (figure_word d all.0, behind.words) refl;
      value = ap (λ v. fold (λ n c. n * 10 + digit_of c) (n * 10 + v) (map glyph rest)) value ∙ behind.value;
    }

-- a number as it is printed: at least one digit, and at most ten
record IsPrinted (n : ℕ) : Type 0 where
  first : ℕ
  rest : List ℕ
  text : decimal n ≡ map glyph (first ∷ rest)
  below : AllBelowBase 10 (first ∷ rest)
  value : number_from_digits 10 (first ∷ rest) ≡ n
  few : length (decimal n) ≤ 10

printed_as : (n : ℕ) (digits : List ℕ) → decimal n ≡ map glyph digits → AllBelowBase 10 digits
    → number_from_digits 10 digits ≡ n → 0 < n → length digits ≤ 10 → IsPrinted n
printed_as n [] text below value some few = absurd (omega arith)
printed_as n (d ∷ rest) text below value some few = record {
  first = d;
  rest = rest;
  text = text;
  below = below;
  value = value;
  few = omega (arith, ap length text, length-map (d ∷ rest) glyph);
}

is_printed : (n : ℕ) → n < 2 ^ 32 → IsPrinted n
unfolding numeral
is_printed zero few = record {
  first = 0;
  rest = [];
  text = refl;
  below = (lit≤ tt, tt);
  value = refl;
  few = lit≤ tt;
}
is_printed (suc n) few =
    let other : (suc n == 0) ≡ false = grind (arith, nat_tests) in
    let most : 2 ^ 32 ≤ 10 ^ 10 = lit≤ tt in
    printed_as (suc n) (digits_of 10 (suc n)) (rw other refl) (all_below_base_digits_of 10 (suc n) (lit≤ tt))
    (number_digits_of 10 (suc n) (lit≤ tt)) (omega arith)
    (length-digits_of-le 10 10 (suc n) (lit≤ tt) (omega arith))

digits_read : (d : ℕ) (rest : List ℕ) (n : ℕ) → AllBelowBase 10 (d ∷ rest) → number_from_digits 10 (d ∷ rest) ≡ n
    → n < 2 ^ 128 → digits_number 10 (map glyph (d ∷ rest)) ≡ Ok n
unfolding digits_number
digits_read d rest n all is few =
    let read = are_read 0 (d ∷ rest) all in
    rw (read.figures, read.value ∙ is, lt-ltb n (2 ^ 128) few) refl

-- no letter behind the first figure names a base
unmarked : (marked : Bool) (letter : ℕ) (digits text : List ℕ) → base_named letter ≡ None
    → cond marked (number_marked (base_named letter) digits text) (digits_number 10 text) ≡ digits_number 10 text
unmarked true letter digits text none = rw none refl
unmarked false letter digits text none = refl

figure_names_none : (d : ℕ) → d < 10 → base_named (glyph d) ≡ None
figure_names_none d below = grind (arith, nat_tests)

number_read : (d : ℕ) (rest : List ℕ) (n : ℕ) → AllBelowBase 10 (d ∷ rest) → number_from_digits 10 (d ∷ rest) ≡ n
    → n < 2 ^ 128 → number_spelled (map glyph (d ∷ rest)) ≡ Ok n
unfolding number_spelled
number_read d [] n all is few = digits_read d [] n all is few
number_read d (e ∷ rest) n all is few =
    unmarked (glyph d == 48) (glyph e) (map glyph rest) (map glyph (d ∷ e ∷ rest)) (figure_names_none e all.1.0)
    ∙ digits_read d (e ∷ rest) n all is few

figure_piece : (d : ℕ) (line : List ℕ) → d < 10
    → piece_at (glyph d) line ≡ number_of_word (number_spelled (take (word_length line) line)) (word_length line)
unfolding piece_at
figure_piece d line below =
    let c = glyph d in
    let blank : (c == 32) ≡ false = grind (arith, nat_tests) in
    let tab : (c == 9) ≡ false = grind (arith, nat_tests) in
    let comment : (c == 59) ≡ false = grind (arith, nat_tests) in
    let start : is_name_start c ≡ false = grind (arith, nat_tests) in
    let figure : is_ascii_digit c ≡ true = grind (arith, nat_tests) in
    rw (blank, tab, comment, start, figure) refl

has_decimal : (number start at n : ℕ) → n < 2 ^ 32
    → Has number start at (decimal n) (token number start at (Number n) (length (decimal n)) ∷ [])
has_decimal number start at n few =
    let printed = is_printed n few in
    let w = map glyph (printed.first ∷ printed.rest) in
    let behind = map glyph printed.rest in
    let words = (are_read 0 (printed.first ∷ printed.rest) printed.below).words in
    let most : 2 ^ 32 ≤ 2 ^ 128 = lit≤ tt in
    let size : word_length w ≡ length w =
    ap word_length (sym (append-nil w)) ∙ word_length_is w [] words refl in
    let whole : take (word_length w) w ≡ w = ap (λ k. take k w) size ∙ take_all (length w) w (omega arith) in
    let piece : piece_at (glyph printed.first) w ≡ Ok (token_of (Number n) (length w)) =
    figure_piece printed.first w printed.below.0
    ∙ ap₂ number_of_word
    (ap number_spelled whole
    ∙ number_read printed.first printed.rest n printed.below printed.value (omega arith)) size in
    subst (λ bytes. Has number start at bytes (token number start at (Number n) (length bytes) ∷ [])) (sym printed.text)
    (has_one number start at (glyph printed.first) behind (Number n) piece)

decimal_plain : (n : ℕ) → n < 2 ^ 32 → list_all is_plain (decimal n) ≡ true
decimal_plain n few =
    let printed = is_printed n few in
    let digits = printed.first ∷ printed.rest in
    ap (list_all is_plain) printed.text ∙ word_plain (map glyph digits) (are_read 0 digits printed.below).words

-- ---- an element

-- an element's name as lines have it
record IsNamed (name : List ℕ) : Type 0 where
  spelled : is_spelled_as_name name ≡ true
  short : length name ≤ 64

named : (name : List ℕ) → is_spelled_as_name name ≡ true → nat_le (length name) 64 ≡ true → IsNamed name
named name spelled fits = record { spelled = spelled; short = grind (arith, nat_tests, fits) }

board_named : (board : BoardParts) (e : ℕ) → check_of board ≡ Ok tt → e < element_count board
    → IsNamed (unwrap_or (element_name board e) [])
unfolding is_name
board_named board e kept below =
    let names = board_names board in
    let name = slice_index_or names e [] in
    let at : slice_get names e ≡ Some name = there names e [] (omega (arith, board_count board)) in
    let parts = and_parts (is_spelled_as_name name) (nat_le (length name) 64) (board_spelled board kept e name at) in
    let same : unwrap_or (element_name board e) [] ≡ name =
    ap (λ (found : Option (List ℕ)). unwrap_or found []) (board_name board e ∙ at) in
    subst IsNamed (sym same) (named name parts.0 parts.1)

machine_named : (job : Job) (e : ℕ) → IsJob job → e < length job.relation.shape.widths → element_count job.board ≤ e
    → IsNamed (slice_index_or job.machine.names (e - element_count job.board) [])
machine_named job e is below past =
    let names = job.machine.names in
    let place = e - element_count job.board in
    let inside : place < length names = omega (arith, widths_count job is, is.machine.formed.registers) in
    let name = slice_index_or names place [] in
    let at = there names place [] inside in
    named name (all_each is_spelled_as_name names is.machine.formed.spelled place name at)
    (all_each (λ (name : List ℕ). nat_le (length name) 64) names is.machine.right.lengths place name at)

-- the element of a name, on the side of a letter
element_bytes : (letter : ℕ) (name : List ℕ) → List ℕ
element_bytes letter name = codes "element " ++ letter ∷ 46 ∷ name

has_element : (number start at letter : ℕ) (name : List ℕ) → is_spelled_as_name (letter ∷ []) ≡ true
    → is_spelled_as_name name ≡ true
    → (found : List Token) × Has number start at (element_bytes letter name) found
unfolding element_bytes
has_element number start at letter [] one is = absurd cc
has_element number start at letter (c ∷ rest) one is = (
  _,
  has_name number start at (codes "element") (32 ∷ letter ∷ 46 ∷ c ∷ rest) _ refl refl
      (has_blank number start (at + 7) (letter ∷ 46 ∷ c ∷ rest) _
      (has_name number start (at + 7 + 1) (letter ∷ []) (46 ∷ c ∷ rest) _ one refl
      (has_point number start (at + 7 + 1 + 1) c rest _
      (has_last_name number start (at + 7 + 1 + 1 + 1) (c ∷ rest) is)))),
)

element_follows : (letter : ℕ) (name : List ℕ) → is_spelled_as_name (letter ∷ []) ≡ true → IsNamed name
    → MayFollow (element_bytes letter name)
unfolding element_bytes
element_follows letter name one is = record {
  plain = both_plain (letter ∷ []) (46 ∷ name) (name_plain (letter ∷ []) one) (name_plain name is.spelled);
  tokens = λ number start at. has_element number start at letter name one is.spelled;
  short = omega (arith, is.short);
}

-- ---- the five differences

late_follows : MayFollow (codes "late")
unfolding tokens_from
late_follows = record {
  plain = refl;
  tokens = λ number start at. (_, has_name number start at (codes "late") [] [] refl refl refl);
  short = lit≤ tt;
}

event_follows : (n : ℕ) → n < 2 ^ 32 → MayFollow (codes "event " ++ decimal n)
event_follows n few = record {
  plain = decimal_plain n few;
  tokens = λ number start at. (
    _,
    has_name number start at (codes "event") (32 ∷ decimal n) _ refl refl
        (has_blank number start (at + 5) (decimal n) _ (has_decimal number start (at + 5 + 1) n few)),
  );
  short = omega (arith, (is_printed n few).few);
}

memory_follows : (a : ℕ) → a < 2 ^ 32 → MayFollow (codes "memory " ++ hex a)
memory_follows a few = record {
  plain = hex_plain a;
  tokens = λ number start at.
      let most : 2 ^ 32 ≤ 2 ^ 128 = lit≤ tt in (
        _,
        has_name number start at (codes "memory") (32 ∷ hex a) _ refl refl
            (has_blank number start (at + 6) (hex a) _ (has_last number start (at + 6 + 1) a (omega arith))),
      );
  short = omega (arith, hex_short a few);
}

job_element_follows : (job : Job) (e : ℕ) → IsJob job → check_of job.board ≡ Ok tt
    → e < length job.relation.shape.widths → MayFollow (element_text job e)
unfolding element_bytes
job_element_follows job e is kept below = elim (cases_lt e (element_count job.board)) [
  | inl here ↦ rw (lt-ltb e (element_count job.board) here)
      (element_follows 98 (unwrap_or (element_name job.board e) []) refl (board_named job.board e kept here))
  | inr past ↦ rw (le-ltb e (element_count job.board) past)
      (element_follows 109 (slice_index_or job.machine.names (e - element_count job.board) []) refl
      (machine_named job e is below past))
]

pub differences_may_follow : DifferencesMayFollow
unfolding difference_text element_bytes
differences_may_follow job Late is kept of = late_follows
differences_may_follow job (Event n) is kept few = event_follows n few
differences_may_follow job StackPointer is kept of =
    element_follows 98 (codes "sp") refl (record { spelled = refl; short = lit≤ tt })
differences_may_follow job (Element e) is kept below = job_element_follows job e is kept below
differences_may_follow job (Memory a) is kept few = memory_follows a few

-- ---- the elements that starts show

-- what holds of each item of a list holds of the one at a place
at_place : {A : Type 0} (P : A → Type 0) (xs : List A) (n : ℕ) (x : A) → All P xs → slice_get xs n ≡ Some x → P x
at_place P xs n x all at = subst P (get_or_from_slice_get xs n x x at) (all n x (slice_get_within xs n x at))

-- an element that a start of a job shows is one of the job's
pub element_is_there : (job : Job) (start : Start) (e : ℕ) → IsJob job → difference_of job start ≡ Some (Element e)
    → e < length job.relation.shape.widths
element_is_there job start e is shows =
    let shown = is_shown job (thinned_start job start) (Element e) (sym (differences_are_thinned job start) ∙ shows) in
    let fails = shown.3.2 in
    let place = is_there job shown.0.state.at shown.1 shown.2.there in
    let formed = at_place (IsFormedBoundary job.relation.shape) job.relation.boundaries place.0 shown.1
    is.matched.relation.formed.boundaries place.1 in
    let line = at_place (IsFormedLine job.relation.shape) shown.1.lines fails.place fails.line formed.lines fails.at in
    subst (λ e. e < length job.relation.shape.widths) fails.left line.left
