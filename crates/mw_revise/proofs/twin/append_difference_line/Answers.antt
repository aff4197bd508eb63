use Rattle.std.proofs.Common.{List, ℕ, [], ◌∷◌, ◌++◌, append_assoc, ap, codes, sym, ◌∙◌}
use Rattle.mw_revise.specs.TwinText.{twin_difference_words}
use Rattle.mw_revise.proofs.twin.append_difference_line.Goals as goal

pub returns : goal.returns
returns c =
    let old = c.args.text.now.items in
    let words = twin_difference_words c.args.board.now c.args.difference in
    c.in_ok-append_line.ensures ∙ ap (λ (xs : List ℕ). xs ++ 10 ∷ [])
    (c.in_ok-append_difference.ensures ∙ ap (λ (xs : List ℕ). xs ++ words) c.in_ok-append_words.ensures)
    ∙ append_assoc (old ++ codes "difference ") words (10 ∷ [])
    ∙ append_assoc old (codes "difference ") (words ++ 10 ∷ [])
    ∙ ap (λ (xs : List ℕ). old ++ xs) (sym (append_assoc (codes "difference ") words (10 ∷ [])))
