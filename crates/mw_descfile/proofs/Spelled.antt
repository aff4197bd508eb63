-- The tokens of a text's lines are spelled as their kinds say.
use Rattle.std.proofs.Common.{ℕ, List, [], ◌∷◌, ◌++◌, length}
use Rattle.std.specs.List.{All}
use Rattle.std.proofs.lemmas.List.Elements.{All-nil, All-cons, All-head, All-tail}
use Rattle.mw_base.specs.declared.line.Line.{Line}
use Rattle.mw_base.specs.declared.token.Token.{Token}
use Rattle.mw_base.specs.Pieces.{Spells}
use Rattle.mw_base.specs.Symbols.{spelled}
use Rattle.mw_base.specs.TokenLines.{tokens_in}
use Rattle.mw_base.specs.Tokens.{InOrder}
use Rattle.mw_descfile.specs.Kept.{AreSpelled}

all_front : {A : Type 0} (P : A → Type 0) (xs ys : List A) → All P (xs ++ ys) → All P xs
all_front P [] ys all = All-nil P
all_front P (x ∷ xs) ys all = All-cons P x xs (All-head P x (xs ++ ys) all)
    (all_front P xs ys (All-tail P x (xs ++ ys) all))

all_back : {A : Type 0} (P : A → Type 0) (xs ys : List A) → All P (xs ++ ys) → All P ys
all_back P [] ys all = all
all_back P (x ∷ xs) ys all = all_back P xs ys (All-tail P x (xs ++ ys) all)

each_line : (text : List ℕ) (lines : List Line) → AreSpelled text (tokens_in lines)
    → All (λ line. AreSpelled text line.tokens) lines
each_line text [] all = All-nil (λ line. AreSpelled text line.tokens)
each_line text (line ∷ rest) all =
    let P = λ (token : Token). Spells (spelled text token) token.kind in
    All-cons (λ line. AreSpelled text line.tokens) line rest (all_front P line.tokens (tokens_in rest) all)
    (each_line text rest (all_back P line.tokens (tokens_in rest) all))

pub lines_spelled : (text : List ℕ) (lines : List Line) → InOrder text (length text) (tokens_in lines)
    → All (λ line. AreSpelled text line.tokens) lines
lines_spelled text lines ordered = each_line text lines ordered.spelled
