-- The addresses of a listing, one after the other.
use Rattle.std.proofs.Common.{◌≡◌, ℕ, ◌+◌, List, [], ◌∷◌, ◌++◌, Bool, true, false, cond, get_or, append-nil, refl}
use Rattle.std.proofs.Common.{zero-add}
use Rattle.std.specs.List.{filter, flat_map, range_with_len}
use Rattle.std.proofs.lemmas.List.{map-id}
use Rattle.std.proofs.lemmas.List.FromFn.{map-range_with_len_more}
use Rattle.std.proofs.lemmas.List.Elements.{filter-append}
use Rattle.std.proofs.lemmas.Grind.{flat_map-append}

-- one more number
range_more : (n : ℕ) → range_with_len 0 (n + 1) ≡ range_with_len 0 n ++ n ∷ []
range_more n = simp map-id at (map-range_with_len_more (λ (i : ℕ). i) 0 n n (zero-add n))

-- what is made of one that is chosen or not
of_last : (f : ℕ → List ℕ) (n : ℕ) (chosen : Bool) → flat_map f (cond chosen (n ∷ []) []) ≡ cond chosen (f n) []
of_last f n true = append-nil (f n)
of_last f n false = refl

-- the address after n
pub lines_more : (f : ℕ → List ℕ) (used : List Bool) (n : ℕ)
    → flat_map f (filter (λ at. get_or used at false) (range_with_len 0 (n + 1)))
    ≡ flat_map f (filter (λ at. get_or used at false) (range_with_len 0 n)) ++ cond (get_or used n false) (f n) []
lines_more f used n = rw (range_more n, filter-append, flat_map-append, of_last f n (get_or used n false)) refl
