-- More digits make no smaller number.
use Rattle.std.proofs.Common.{◌≡◌, ℕ, ◌+◌, ◌*◌, ◌≤◌, ◌<◌, List, [], ◌∷◌, take, drop, length, get_or, arith, ap, ◌∙◌}
use Rattle.std.proofs.Common.{sym}
use Rattle.std.specs.List.{fold}
use Rattle.std.proofs.lemmas.List.{take-append-drop, take_more}
use Rattle.std.proofs.lemmas.List.Sums.{fold-append}
use Rattle.std.proofs.Math.Nat.{mul-le-mul_left}
use Rattle.mw_base.specs.Literals.{value_of, digit_of}

abbrev more : ℕ → ℕ → ℕ → ℕ
more base n c = n * base + digit_of c

-- whatever digits follow a number
fold_ge : (base n : ℕ) (text : List ℕ) → 1 ≤ base → n ≤ fold (more base) n text
fold_ge base n [] h = omega arith
fold_ge base n (c ∷ rest) h =
    let later = fold_ge base (n * base + digit_of c) rest h in
    let grows : n ≤ n * base = omega (arith, mul-le-mul_left n h) in
    omega arith

-- what the digits so far and one more make is no more than the whole
pub value_ge : (base i : ℕ) (text : List ℕ)
    → 1 ≤ base → i < length text → value_of base (take i text) * base + digit_of (get_or text i 0) ≤ value_of base text
value_ge base i text h lt =
    let whole : value_of base text ≡ fold (more base) (value_of base (take (i + 1) text)) (drop (i + 1) text) =
    ap (value_of base) (sym (take-append-drop (i + 1) text))
    ∙ fold-append (more base) 0 (take (i + 1) text) (drop (i + 1) text) in
    let step : value_of base (take (i + 1) text) ≡ value_of base (take i text) * base + digit_of (get_or text i 0) =
    ap (value_of base) (take_more text i 0 lt) ∙ fold-append (more base) 0 (take i text) (get_or text i 0 ∷ []) in
    let bound = fold_ge base (value_of base (take (i + 1) text)) (drop (i + 1) text) h in
    omega (arith, whole, step)
