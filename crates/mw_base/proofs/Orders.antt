-- Tokens that stand one after another, and their slices of the text.
use Rattle.std.proofs.Common.{◌≡◌, ℕ, ◌+◌, ◌-◌, ◌<◌, ◌≤◌, List, [], ◌∷◌, ◌++◌, take, drop, length, arith, sym, ap, ◌∙◌}
use Rattle.std.proofs.Common.{append_assoc}
use Rattle.std.proofs.lemmas.List.{take-take, drop-take, drop-drop}
use Rattle.std.proofs.lemmas.List.Elements.{All-push}
use Rattle.std.proofs.lemmas.List.Quantifiers.{all_pairs_push}
use Rattle.mw_base.specs.declared.token.Token.{Token}
use Rattle.mw_base.specs.Pieces.{Spells}
use Rattle.mw_base.specs.Tokens.{InOrder, slice}
use Rattle.mw_base.proofs.Stretches.{rest_of, rest_is}

abbrev EndsBefore : ℕ → Token → Type 0
EndsBefore place token = (token.start < token.end) × (token.end ≤ place)

-- a place further on
pub in_order_on : (text : List ℕ) (place next : ℕ) (tokens : List Token) → InOrder text place tokens → place ≤ next
    → InOrder text next tokens
in_order_on text place next tokens old on = record {
  within = λ k d below. let here = old.within k d below in (here.0, omega arith);
  apart = old.apart;
  spelled = old.spelled;
}

-- one token more
pub in_order_push : (text : List ℕ) (place next : ℕ) (front tokens : List Token) (token : Token)
    → InOrder text place (front ++ tokens)
    → place ≤ token.start → token.start < token.end → token.end ≤ next
    → Spells (slice text token.start token.end) token.kind
    → InOrder text next (front ++ (tokens ++ token ∷ []))
in_order_push text place next front tokens token old after some fits spells =
    let kept = in_order_on text place next (front ++ tokens) old (omega arith) in
    rw (← append_assoc front tokens (token ∷ [])) (record {
      within = All-push (EndsBefore next) (front ++ tokens) token kept.within (some, fits);
      apart = all_pairs_push (λ (first second : Token). first.end ≤ second.start) (front ++ tokens) token old.apart
          (λ k d below. let here = old.within k d below in omega arith);
      spelled = All-push (λ (token : Token). Spells (slice text token.start token.end) token.kind)
          (front ++ tokens) token old.spelled spells;
    })

-- the bytes of a piece, of its line and of the text
pub slice_in : (text : List ℕ) (start at n : ℕ) (line : List ℕ) → slice text start (start + length line) ≡ line
    → at + n ≤ length line → slice text (start + at) (start + at + n) ≡ take n (rest_of line at)
slice_in text start at n line is fits =
    let size : start + at + n - (start + at) ≡ n = omega arith in
    let whole : start + length line - start ≡ at + (length line - at) = omega arith in
    let shown : take (at + (length line - at)) (drop start text) ≡ line = rw whole at is in
    let left : drop at line ≡ take (length line - at) (drop (start + at) text) =
    ap (drop at) (sym shown)
    ∙ (drop-take at (length line - at) (drop start text) ∙ ap (take (length line - at)) (drop-drop at start text)) in
    rw (size, rest_is line at, left) (sym (take-take n (length line - at) (drop (start + at) text) (omega arith)))

-- the front of a line is a slice of the text
pub slice_front : (text line front : List ℕ) (start : ℕ) → line ≡ take (length line) (rest_of text start)
    → front ≡ take (length front) line → length front ≤ length line → slice text start (start + length front) ≡ front
slice_front text line front start first second fits =
    let size : start + length front - start ≡ length front = omega arith in
    let shown : take (length front) line ≡ take (length front) (drop start text) =
    ap (take (length front)) first ∙ (take-take (length front) (length line) (rest_of text start) fits
    ∙ ap (take (length front)) (rest_is text start)) in
    rw size (sym (second ∙ shown))
