-- Lines as they are printed, read one after another.
use Rattle.std.proofs.Common.{◌≡◌, ℕ, suc, ◌+◌, ◌-◌, ◌≤◌, List, [], ◌∷◌, ◌++◌, take, drop, length, Bool, true, false}
use Rattle.std.proofs.Common.{cond, not, ◌==◌, Result, Ok, append_assoc, length-append, refl, sym, ap, ap₂, ◌∙◌, subst}
use Rattle.std.proofs.Common.{arith}
use Rattle.std.specs.Prelude.{◌&&◌, nat_eq, nat_le}
use Rattle.std.specs.List.{list_all, ends_with}
use Rattle.std.specs.Cmp.Lexicographic.{pointwise}
use Rattle.std.proofs.Math.Seq.{drop-append_seam, take-append_seam}
use Rattle.std.proofs.lemmas.Bool.{and_parts, le-leb}
use Rattle.std.proofs.lemmas.Bool.Decides.{nat_tests}
use Rattle.std.proofs.lemmas.List.{drop-drop}
use Rattle.mw_base.specs.declared.line.Line.{Line}
use Rattle.mw_base.specs.declared.refusal.TextFault.{TextFault}
use Rattle.mw_base.specs.declared.token.Token.{Token}
use Rattle.mw_base.specs.Lines.{content, lines_of, with_byte}
use Rattle.mw_base.specs.Reading.{◌>>=◌, with_front}
use Rattle.mw_base.specs.Steps.{steps}
use Rattle.mw_base.specs.TokenLines.{line_of, lines_from}
use Rattle.mw_base.specs.Tokens.{line_tokens}
use Rattle.mw_sim.specs.Texts.{line}
use Rattle.mw_replay.proofs.Tokens.{Has}

-- ---- the bytes of a line

-- a byte that stands in no line's end
abbrev pub is_plain : ℕ → Bool
is_plain c = not (c == 10) && not (c == 13)

not_true : (b : Bool) → not b ≡ true → b ≡ false
not_true true is = absurd cc
not_true false is = refl

no_feed : (c : ℕ) → is_plain c ≡ true → (c == 10) ≡ false
no_feed c is = not_true (c == 10) (and_parts (not (c == 10)) (not (c == 13)) is).0

no_return : (c : ℕ) → is_plain c ≡ true → nat_eq 13 c ≡ false
no_return c is =
    let other : (c == 13) ≡ false = not_true (c == 13) (and_parts (not (c == 10)) (not (c == 13)) is).1 in
    grind (arith, nat_tests)

-- the first line of a text
first_line : (bytes rest : List ℕ) → list_all is_plain bytes ≡ true
    → lines_of (bytes ++ 10 ∷ rest) ≡ (bytes ++ 10 ∷ []) ∷ lines_of rest
unfolding lines_of
first_line [] rest all = refl
first_line (c ∷ bytes) rest all =
    let parts = and_parts (is_plain c) (list_all is_plain bytes) all in
    let later = lines_of (bytes ++ 10 ∷ rest) in
    ap (λ b. cond b ((c ∷ []) ∷ later) (with_byte c later)) (no_feed c parts.0)
    ∙ ap (with_byte c) (first_line bytes rest parts.1)

ended : (bytes : List ℕ) → list_all is_plain bytes ≡ true
    → ends_with nat_eq (bytes ++ 10 ∷ []) (13 ∷ 10 ∷ []) ≡ false
ended [] all = refl
ended (x ∷ []) all = rw (no_return x (and_parts (is_plain x) true all).0) refl
ended (x ∷ y ∷ rest) all =
    let parts = and_parts (is_plain x) (list_all is_plain (y ∷ rest)) all in
    let size : length (x ∷ y ∷ rest ++ 10 ∷ []) - 2 ≡ suc (length (y ∷ rest ++ 10 ∷ []) - 2) =
    omega (arith, length-append rest (10 ∷ [])) in
    ap (λ n. pointwise nat_eq (13 ∷ 10 ∷ []) (drop n (x ∷ y ∷ rest ++ 10 ∷ []))) size ∙ ended (y ∷ rest) parts.1

-- a line without its feed
content_is : (bytes : List ℕ) → list_all is_plain bytes ≡ true → content (bytes ++ 10 ∷ []) ≡ bytes
content_is bytes all =
    let size : length (bytes ++ 10 ∷ []) - 1 ≡ length bytes = omega (arith, length-append bytes (10 ∷ [])) in
    let feed : ends_with nat_eq (bytes ++ 10 ∷ []) (10 ∷ []) ≡ true =
    ap (λ n. pointwise nat_eq (10 ∷ []) (drop n (bytes ++ 10 ∷ []))) size
    ∙ ap (pointwise nat_eq (10 ∷ [])) (drop-append_seam bytes (10 ∷ [])) in
    ap₂ (λ return feed.
    cond return (take (length (bytes ++ 10 ∷ []) - 2) (bytes ++ 10 ∷ []))
    (cond feed (take (length (bytes ++ 10 ∷ []) - 1) (bytes ++ 10 ∷ [])) (bytes ++ 10 ∷ []))) (ended bytes all) feed
    ∙ ap (λ n. take n (bytes ++ 10 ∷ [])) size ∙ take-append_seam bytes (10 ∷ [])

-- ---- lines that give something

-- the line of these bytes and tokens
abbrev pub line_with : ℕ → List ℕ → List Token → Line
line_with number bytes tokens = record { number = number; end = length bytes + 1; tokens = tokens }

line_is : (number start : ℕ) (bytes : List ℕ) (tokens : List Token) → length bytes ≤ 4096
    → Has number start 0 bytes tokens → line_of number start bytes ≡ Ok (line_with number bytes tokens)
unfolding line_of line_tokens
line_is number start bytes tokens short has =
    let fits : nat_le (length bytes) 4096 ≡ true = le-leb (length bytes) 4096 short in
    rw (fits, has) refl

-- the lines of the rest of a text, the first of which has this number, give with what was given what has a property
pub record Reads {B : Type 0} (P : B → Type 0) (step : B → Line → Result B TextFault) (number start : ℕ)
    (rest : List ℕ) (given : B) : Type 0 where
  pub lines : List Line
  pub end : B
  pub are : lines_from number start (lines_of rest) ≡ Ok lines
  pub give : steps step given lines ≡ Ok end
  pub so : P end

-- they do wherever they stand at the end of a text
abbrev pub Goes : {B : Type 0} → (B → Type 0) → (B → Line → Result B TextFault) → (text rest : List ℕ) → B → Type 0
Goes P step text rest given = (number start : ℕ) → drop start text ≡ rest → Reads P step number start rest given

pub end_goes : {B : Type 0} (P : B → Type 0) (step : B → Line → Result B TextFault) (text : List ℕ) (given : B)
    → P given → Goes P step text [] given
unfolding lines_of lines_from steps
end_goes P step text given so number start at = record {
  lines = [];
  end = given;
  are = refl;
  give = refl;
  so = so;
}

-- a line that makes of what was given something more
pub record Gives {B : Type 0} (step : B → Line → Result B TextFault) (number start : ℕ) (bytes : List ℕ)
    (given after : B) : Type 0 where
  pub tokens : List Token
  pub has : Has number start 0 bytes tokens
  pub gives : step given (line_with number bytes tokens) ≡ Ok after

-- the first line with its tokens, before the others
pub first_read : (number start : ℕ) (bytes rest : List ℕ) (tokens : List Token) (others : List Line)
    → list_all is_plain bytes ≡ true → length bytes ≤ 4096 → Has number start 0 bytes tokens
    → lines_from (number + 1) (start + length (bytes ++ 10 ∷ [])) (lines_of rest) ≡ Ok others
    → lines_from number start (lines_of (bytes ++ 10 ∷ rest)) ≡ Ok (line_with number bytes tokens ∷ others)
unfolding lines_from
first_read number start bytes rest tokens others plain short has later =
    ap (lines_from number start) (first_line bytes rest plain)
    ∙ ap₂ (λ first others. first >>= λ line. with_front (line ∷ []) others)
    (ap (line_of number start) (content_is bytes plain) ∙ line_is number start bytes tokens short has) later

one_line : {B : Type 0} (P : B → Type 0) (step : B → Line → Result B TextFault) (number start : ℕ)
    (bytes rest : List ℕ) (given after : B) → list_all is_plain bytes ≡ true → length bytes ≤ 4096
    → Gives step number start bytes given after
    → Reads P step (number + 1) (start + length (bytes ++ 10 ∷ [])) rest after
    → Reads P step number start (bytes ++ 10 ∷ rest) given
unfolding steps
one_line P step number start bytes rest given after plain short gives later = record {
  lines = line_with number bytes gives.tokens ∷ later.lines;
  end = later.end;
  are = first_read number start bytes rest gives.tokens later.lines plain short gives.has later.are;
  give =
      ap (λ made. made >>= λ more. steps step more later.lines) gives.gives
      ∙ later.give;
  so = later.so;
}

pub line_goes : {B : Type 0} (P : B → Type 0) (step : B → Line → Result B TextFault) (text bytes rest : List ℕ)
    (given after : B) → list_all is_plain bytes ≡ true → length bytes ≤ 4096
    → ((number start : ℕ) → drop start text ≡ bytes ++ 10 ∷ rest → Gives step number start bytes given after)
    → Goes P step text rest after → Goes P step text (line bytes ++ rest) given
line_goes P step text bytes rest given after plain short gives later number start at =
    let whole : line bytes ++ rest ≡ bytes ++ 10 ∷ rest = append_assoc bytes (10 ∷ []) rest in
    let here : drop start text ≡ bytes ++ 10 ∷ rest = at ∙ whole in
    let next : drop (start + length (bytes ++ 10 ∷ [])) text ≡ rest =
    sym (drop-drop (length (bytes ++ 10 ∷ [])) start text) ∙ ap (drop (length (bytes ++ 10 ∷ []))) at
    ∙ drop-append_seam (bytes ++ 10 ∷ []) rest in
    subst (λ (bytes : List ℕ). Reads P step number start bytes given) (sym whole)
    (one_line P step number start bytes rest given after plain short (gives number start here)
    (later (number + 1) (start + length (bytes ++ 10 ∷ [])) next))
