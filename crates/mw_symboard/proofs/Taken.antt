-- The front of an array.
use Rattle.std.proofs.Common.{◌≡◌, ℕ, zero, suc, ◌<◌, List, [], ◌∷◌, length, take, refl, arith}
use Rattle.std.specs.Prelude.{Some, slice_get, slice_index_or}

pub get_taken : {X : Type 0} (count : ℕ) (xs : List X) (place : ℕ) (otherwise : X) → place < length (take count xs)
    → slice_get (take count xs) place ≡ Some (slice_index_or xs place otherwise)
get_taken zero xs place otherwise inside = absurd (omega (arith, inside))
get_taken (suc n) [] place otherwise inside = absurd (omega (arith, inside))
get_taken (suc n) (x ∷ xs) zero otherwise inside = refl
get_taken (suc n) (x ∷ xs) (suc k) otherwise inside = get_taken n xs k otherwise (omega (arith, inside))

pub taken_most : {X : Type 0} (count : ℕ) (xs : List X) (place : ℕ) → place < length (take count xs) → place < count
taken_most zero xs place inside = omega (arith, inside)
taken_most (suc n) [] place inside = absurd (omega (arith, inside))
taken_most (suc n) (x ∷ xs) zero inside = omega arith
taken_most (suc n) (x ∷ xs) (suc k) inside =
    let before : k < n = taken_most n xs k (omega (arith, inside)) in
    omega (arith, before)
