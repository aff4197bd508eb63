-- What each line of a question's text keeps.
use Rattle.std.proofs.Common.{◌≡◌, ℕ, ◌+◌, ◌≤◌, List, [], ◌∷◌, length, Bool, true, false, refl, ◌∙◌, sym, ap, arith}
use Rattle.std.proofs.Common.{subst}
use Rattle.std.specs.Prelude.{None, nat_le, nat_lt, ◌&&◌, codes, if◌then◌else◌, Result, Ok, Err, IfOk}
use Rattle.std.specs.Str.{bytes_eq}
use Rattle.std.proofs.lemmas.Bool.Decides.{nat_tests}
use Rattle.std.proofs.lemmas.List.{length_push}
use Rattle.std.proofs.lemmas.List.Elements.{All-nil, All-cons, All-append}
use Rattle.mw_base.specs.declared.cause.Cause.TheVariants.{TooMany, ValueTooWide, BadSyntax}
use Rattle.mw_base.specs.declared.cursor.Numeral.{Numeral}
use Rattle.mw_base.specs.declared.line.Line.{Line}
use Rattle.mw_base.specs.declared.refusal.Refused.{Refused}
use Rattle.mw_base.specs.declared.refusal.TextFault.{TextFault}
use Rattle.mw_base.specs.declared.token.Token.{Token}
use Rattle.mw_base.specs.Cursors.{Cursor, at_line, after, misplaced, name_at, number_at, first_word, end_at}
use Rattle.mw_base.specs.Named.{new_name}
use Rattle.mw_base.specs.Reading.{Gives}
use Rattle.mw_base.specs.Steps.{steps}
use Rattle.mw_base.specs.Symbols.{spelled}
use Rattle.mw_base.specs.TokenLines.{fault_on, text_end, token_lines}
use Rattle.mw_base.proofs.Results.{ok_of, ok_is, bind_ok, if_ok}
use Rattle.mw_base.proofs.Steps.{steps_keep}
use Rattle.mw_expr.specs.Grammar.{number_by_name}
use Rattle.mw_check.specs.declared.question.Question.{Question}
use Rattle.mw_check.specs.Question.{Asked, asked_of}
use Rattle.mw_check.specs.QuestionKept.{AreVariables, IsHalf, IsRead, IsKnownQuestion, TextsAskQuestions}
use Rattle.mw_check.specs.QuestionText.{Variables, Half, Known, declaring, halved, whole, no_variables, few}
use Rattle.mw_check.specs.QuestionText.{is_reserved, width_in, with_variable, shape_over, side_of, variable_line}
use Rattle.mw_check.specs.QuestionText.{left_line, first_line, right_line, last_line, with_tokens, with_any}
use Rattle.mw_check.specs.QuestionText.{with_line, finished, question_of}
use Rattle.mw_check.proofs.Sides.{side_read}

-- ---- variables

pub none_kept : IsKnownQuestion (declaring no_variables)
none_kept = record { few = omega arith; counted = refl; widths = All-nil _; address = refl; word = refl }

variable_kept : (text : List ℕ) (name : Token) (width : Numeral) (v next : Variables)
    → AreVariables v.names (shape_over v.widths)
    → with_variable text name width v ≡ Ok next
    → AreVariables next.names (shape_over next.widths)
unfolding with_variable
variable_kept text name width v next are is =
    let one = bind_ok (few v.names name) _ next is in
    let two = bind_ok (new_name text (number_by_name v.names) (is_reserved (spelled text name)) name) _ next one.2 in
    let three = bind_ok (width_in width) _ next two.2 in
    let made = ok_is {F = TextFault} _ next three.2 in
    let room = (if_ok (nat_lt (length v.names) 64) tt one.0 (fault_on name TooMany) one.1).0 in
    let bits = if_ok (nat_le 1 width.value && nat_le width.value 32) width.value three.0
    (fault_on width.token ValueTooWide) three.1 in
    let tests = bits.0 in
    let low : 1 ≤ width.value = grind (arith, nat_tests, tests) in
    let high : width.value ≤ 32 = grind (arith, nat_tests, tests) in
    let last : (1 ≤ three.0) × (three.0 ≤ 32) = subst (λ n. (1 ≤ n) × (n ≤ 32)) bits.1 (low, high) in
    let names = length_push v.names (spelled text name) in
    let widths = length_push v.widths three.0 in
    let few : length v.names + 1 ≤ 64 = grind (arith, nat_tests, room) in
    let counted = are.counted in
    subst (λ (v : Variables). AreVariables v.names (shape_over v.widths)) made (record {
      few = omega (arith, names, few);
      counted = omega (arith, names, widths, counted);
      widths = All-append (λ w. (1 ≤ w) × (w ≤ 32)) v.widths (three.0 ∷ []) are.widths
          (All-cons (λ w. (1 ≤ w) × (w ≤ 32)) three.0 [] last (All-nil (λ w. (1 ≤ w) × (w ≤ 32))));
      address = refl;
      word = refl;
    })

variable_line_kept : (v : Variables) (line : Cursor) (next : Known) → AreVariables v.names (shape_over v.widths)
    → variable_line v line ≡ Ok next → IsKnownQuestion next
unfolding variable_line
variable_line_kept v line next are is =
    let one = bind_ok (name_at 1 line) _ next is in
    let two = bind_ok (number_at 2 line) _ next one.2 in
    let three = bind_ok (end_at 3 line) _ next two.2 in
    let four = bind_ok (with_variable line.text one.0 two.0 v) (λ more. ok_of {F = TextFault} (declaring more)) next
    three.2 in
    subst IsKnownQuestion (ok_is {F = TextFault} (declaring four.0) next four.2)
    (variable_kept line.text one.0 two.0 v four.0 are four.1)

-- ---- sides

left_kept : (v : Variables) (word : Token) (line : Cursor) (next : Known) → AreVariables v.names (shape_over v.widths)
    → left_line v word line ≡ Ok next → IsKnownQuestion next
unfolding left_line
left_kept v word line next are is =
    let one = bind_ok (side_of v.names (shape_over v.widths) None word (after 1 line)) _ next is in
    let read = side_read v.names (shape_over v.widths) None word (after 1 line) one.0 are one.1 in
    subst IsKnownQuestion (ok_is {F = TextFault} _ next one.2) (record { variables = are; left = read.wide })

right_kept : (h : Half) (line : Cursor) (next : Known) → IsHalf h → right_line h line ≡ Ok next → IsKnownQuestion next
unfolding right_line
right_kept h line next kept is =
    let one = bind_ok (first_word (codes "right") line) _ next is in
    let two = bind_ok (side_of h.names h.shape h.left.width one.0 (after 1 line)) _ next one.2 in
    let read = side_read h.names h.shape h.left.width one.0 (after 1 line) two.0 kept.variables two.1 in
    let same = read.even kept.left.bits kept.left.told in
    subst IsKnownQuestion (ok_is {F = TextFault} _ next two.2) (record {
      variables = kept.variables;
      question = record {
        counted = kept.variables.counted;
        range = kept.variables.widths;
        left = record { wide = rw kept.left.wide refl; free = kept.left.free };
        right = record { wide = rw read.wide.wide refl; free = read.wide.free };
        same = kept.left.wide ∙ sym (read.wide.wide ∙ ap Ok same);
      };
    })

-- ---- any line

-- one of two words, and what it begins
of_words : {P : Type 0} (b c : Bool) (x y : Result Known TextFault) (fault : TextFault) (next : Known)
    → (if b then x else (if c then y else Err fault)) ≡ Ok next → (x ≡ Ok next → P) → (y ≡ Ok next → P) → P
of_words true c x y fault next is first second = first is
of_words false true x y fault next is first second = second is
of_words false false x y fault next is first second = absurd cc

first_kept : (v : Variables) (line : Cursor) (next : Known) → AreVariables v.names (shape_over v.widths)
    → first_line v line ≡ Ok next → IsKnownQuestion next
unfolding first_line
first_kept v line next are is =
    let one = bind_ok (name_at 0 line) _ next is in
    of_words (bytes_eq (spelled line.text one.0) (codes "var")) (bytes_eq (spelled line.text one.0) (codes "left"))
    (variable_line v line) (left_line v one.0 line) (misplaced one.0 line) next one.2
    (variable_line_kept v line next are) (left_kept v one.0 line next are)

last_kept : (q : Asked) (line : Cursor) (next : Known) → IsRead q → last_line q line ≡ Ok next → IsKnownQuestion next
unfolding last_line
last_kept q line next kept is =
    let one = bind_ok (end_at 0 line) (λ end. ok_of {F = TextFault} (whole q)) next is in
    subst IsKnownQuestion (ok_is {F = TextFault} (whole q) next one.2) kept

tokens_kept : (known next : Known) (line : Cursor)
    → IsKnownQuestion known → with_tokens known line ≡ Ok next → IsKnownQuestion next
tokens_kept (declaring v) next line kept is = first_kept v line next kept is
tokens_kept (halved h) next line kept is = right_kept h line next kept is
tokens_kept (whole q) next line kept is = last_kept q line next kept is

any_kept : (text : List ℕ) (known next : Known) (line : Line) (tokens : List Token) → IsKnownQuestion known
    → with_any text known line tokens ≡ Ok next → IsKnownQuestion next
any_kept text known next line [] kept is = subst IsKnownQuestion (ok_is {F = TextFault} known next is) kept
any_kept text known next line (token ∷ rest) kept is = tokens_kept known next (at_line text line BadSyntax) kept is

pub line_kept : (text : List ℕ) (known next : Known) (line : Line) → with_line text known line ≡ Ok next
    → IsKnownQuestion known → IsKnownQuestion next
line_kept text known next line is kept = any_kept text known next line line.tokens kept is

-- ---- whole texts

finished_read : (known : Known) (fault : TextFault) (q : Asked)
    → IsKnownQuestion known → finished known fault ≡ Ok q → IsRead q
finished_read (declaring v) fault q kept is = absurd cc
finished_read (halved h) fault q kept is = absurd cc
finished_read (whole asked) fault q kept is = subst IsRead (ok_is {F = TextFault} asked q is) kept

pub texts_ask_questions : TextsAskQuestions
unfolding question_of
texts_ask_questions text q is =
    let one = bind_ok (token_lines text) _ q is in
    let two = bind_ok (steps (with_line text) (declaring no_variables) one.0)
    (λ known. finished known (text_end one.0 BadSyntax)) q one.2 in
    finished_read two.0 (text_end one.0 BadSyntax) q
    (steps_keep IsKnownQuestion (with_line text) (λ before after line. line_kept text before after line)
    (declaring no_variables) two.0 one.0 two.1 none_kept)
    two.2

-- so is what a call gives that reads it
pub given_read : (text : List ℕ) (r : Result Question (Refused TextFault)) → Gives asked_of r (question_of text)
    → IfOk r (λ q. IsRead (asked_of q))
given_read text (Ok q) gives = texts_ask_questions text (asked_of q) gives
given_read text (Err e) gives = tt
