-- The lines of a text, each with its tokens, one line at a time.
use Rattle.std.proofs.Common.{◌≡◌, ℕ, ◌+◌, ◌≤◌, List, [], ◌∷◌, ◌++◌, Result, Ok, Err, drop, length, refl, sym, ap, ◌∙◌}
use Rattle.std.proofs.Common.{append-nil}
use Rattle.std.proofs.lemmas.List.{drop_all}
use Rattle.std.proofs.lemmas.Grind.{flat_map-append}
use Rattle.mw_base.specs.declared.line.Line.{Line}
use Rattle.mw_base.specs.declared.refusal.Refused.{Refused}
use Rattle.mw_base.specs.declared.refusal.Refused.TheVariants.{At, NoMemory}
use Rattle.mw_base.specs.declared.refusal.TextFault.{TextFault}
use Rattle.mw_base.specs.Lines.{lines_of, content}
use Rattle.mw_base.specs.Reading.{with_front, Fails}
use Rattle.mw_base.specs.TokenLines.{line_of, lines_from, tokens_in}
use Rattle.mw_base.proofs.Lists.{with_front_twice}
use Rattle.mw_base.proofs.Stretches.{rest_of, lines_left}

-- the tokens of one line more
pub one_more : (lines : List Line) (line : Line) → tokens_in (lines ++ line ∷ []) ≡ tokens_in lines ++ line.tokens
one_more lines line =
    flat_map-append (λ (line : Line). line.tokens) lines (line ∷ [])
    ∙ ap (λ tokens. tokens_in lines ++ tokens) (append-nil line.tokens)

-- this line is the first of those that are left of a text
abbrev pub IsFirst : List ℕ → List ℕ → ℕ → Type 0
IsFirst line text start = lines_of (rest_of text start) ≡ line ∷ lines_of (drop (length line) (rest_of text start))

-- what is read of those that are left, the first of which has this number
abbrev pub left_of : List ℕ → ℕ → ℕ → Result (List Line) TextFault
left_of text number start = lines_from number start (lines_of (drop start text))

-- a line that is read
pub goes_on : (old : List Line) (made : Line) (number start : ℕ) (text line : List ℕ)
    (total : Result (List Line) TextFault)
    → IsFirst line text start → line_of number start (content line) ≡ Ok made
    → with_front old (left_of text number start) ≡ total
    → with_front (old ++ made ∷ []) (left_of text (number + 1) (start + length line)) ≡ total
unfolding lines_from
goes_on old made number start text line total first reads so_far =
    let later = left_of text (number + 1) (start + length line) in
    let here : left_of text number start ≡ with_front (made ∷ []) later =
    rw (lines_left text line start first, reads) refl in
    with_front_twice old (made ∷ []) later ∙ (ap (with_front old) (sym here) ∙ so_far)

-- a line that is refused
pub fails : (refusal : Refused TextFault) (old : List Line) (number start : ℕ) (text line : List ℕ)
    (total : Result (List Line) TextFault)
    → IsFirst line text start → Fails refusal (line_of number start (content line))
    → with_front old (left_of text number start) ≡ total
    → Fails refusal total
unfolding lines_from
fails NoMemory old number start text line total first faulty so_far = tt
fails (At fault) old number start text line total first faulty so_far =
    let here : left_of text number start ≡ Err fault = rw (lines_left text line start first, faulty) refl in
    sym so_far ∙ rw here refl

-- all lines are read
pub all_read : (old : List Line) (number start : ℕ) (text : List ℕ) (total : Result (List Line) TextFault)
    → length text ≤ start
    → with_front old (left_of text number start) ≡ total → total ≡ Ok old
unfolding lines_from lines_of
all_read old number start text total past so_far =
    let here : with_front old (left_of text number start) ≡ Ok old =
    rw (drop_all start text past) (ap Ok (append-nil old)) in
    sym so_far ∙ here
