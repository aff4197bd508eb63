use Rattle.std.proofs.Common.{◌≡◌, ◌∷◌, ◌∙◌, ◌+◌, List, ℕ, suc, ap, arith, min, codes, rules, sym}
use Rattle.std.specs.Borrow.{Bor}
use Rattle.std.proofs.lemmas.List.{take-map}
use Rattle.mw_board.proofs.Elements.{take_some}
use Rattle.mw_board.proofs.element.names_behind.Goals as goal

pub returns : goal.returns
returns c =
    let words : c.from.result ≡ min c.args.depth 9 = search rules in
    let two : 2 + min c.args.depth 9 ≡ suc (suc (min c.args.depth 9)) = omega arith in
    rw (words, two) (ap (λ (names : List (List ℕ)). codes "upc" ∷ codes "count" ∷ names)
    (sym (take-map (λ (name : Bor (List ℕ)). name.now) (min c.args.depth 9) _) ∙ take_some c.args.depth))
