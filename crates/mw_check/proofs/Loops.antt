-- The values of a question's variables, one after another.
use Rattle.std.proofs.Common.{◌≡◌, ℕ, ◌+◌, ◌%◌, ◌^◌, ◌<◌, ◌≤◌, List, [], ◌∷◌, ◌++◌, length, drop, slice_index, ap, sym}
use Rattle.std.proofs.Common.{◌∙◌, append_assoc, append-nil}
use Rattle.std.proofs.lemmas.List.{drop_more, drop_all}
use Rattle.mw_term.specs.Assigned.{Given}
use Rattle.mw_check.specs.Equal.{values_from}

-- one value more
pub value_next : (all front widths : List ℕ) (given : Given) (i v : ℕ) → i < length widths
    → v ≡ given (i + 1) % 2 ^ slice_index widths i → front ++ values_from (i + 1) (drop i widths) given ≡ all
    → (front ++ v ∷ []) ++ values_from (i + 1 + 1) (drop (i + 1) widths) given ≡ all
value_next all front widths given i v inside is so_far =
    let next = drop_more widths i 0 inside in
    append_assoc front (v ∷ []) (values_from (i + 1 + 1) (drop (i + 1) widths) given)
    ∙ ap (λ x. front ++ x ∷ values_from (i + 1 + 1) (drop (i + 1) widths) given) is
    ∙ ap (λ ws. front ++ values_from (i + 1) ws given) (sym next) ∙ so_far

-- all values
pub values_end : (all front widths : List ℕ) (given : Given) (i : ℕ) → length widths ≤ i
    → front ++ values_from (i + 1) (drop i widths) given ≡ all → front ≡ all
values_end all front widths given i past so_far =
    sym (append-nil front) ∙ ap (λ ws. front ++ values_from (i + 1) ws given) (sym (drop_all i widths past)) ∙ so_far
