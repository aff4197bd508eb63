-- The lines of numbers behind a text, one after another.
use Rattle.std.proofs.Common.{◌≡◌, ℕ, ◌+◌, List, [], ◌∷◌, ◌++◌, zero-add, ap, sym, ◌∙◌}
use Rattle.std.specs.List.{flat_map, range_with_len}
use Rattle.std.proofs.lemmas.List.{map-id, flat_map_more}
use Rattle.std.proofs.lemmas.List.FromFn.{map-range_with_len_more}

-- the numbers up to one more
numbers_more : (n : ℕ) → range_with_len 0 (n + 1) ≡ range_with_len 0 n ++ n ∷ []
numbers_more n = simp map-id at (map-range_with_len_more (λ (i : ℕ). i) 0 n n (zero-add n))

-- the lines of numbers, and those of one more
pub numbered_more : (lines : ℕ → List ℕ) (n : ℕ) (front before after : List ℕ)
    → before ≡ front ++ flat_map lines (range_with_len 0 n) → after ≡ before ++ lines n
    → after ≡ front ++ flat_map lines (range_with_len 0 (n + 1))
numbered_more lines n front before after was is =
    is ∙ ap (λ (text : List ℕ). text ++ lines n) was ∙ flat_map_more lines front (range_with_len 0 n) n
    ∙ ap (λ (numbers : List ℕ). front ++ flat_map lines numbers) (sym (numbers_more n))
