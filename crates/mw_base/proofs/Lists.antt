-- Lists that are gone through, and items before those that are read.
use Rattle.std.proofs.Common.{◌≡◌, ℕ, ◌+◌, ◌<◌, List, [], ◌∷◌, ◌++◌, Result, Ok, Err, length, get_or, drop, drop-cons}
use Rattle.std.proofs.Common.{add-one, append_assoc, refl, sym, ap, ◌∙◌}
use Rattle.mw_base.specs.Reading.{◌>>=◌, with_front}

-- the item at a place, and those after it
pub next_or : {A : Type 0} (xs : List A) (n : ℕ) (d : A) → n < length xs → drop n xs ≡ get_or xs n d ∷ drop (n + 1) xs
next_or xs n d within = rw add-one (drop-cons xs n d within)

pub next : {A : Type 0} (xs : List A) (n : ℕ) (x : A) → n < length xs → x ≡ get_or xs n x
    → drop n xs ≡ x ∷ drop (n + 1) xs
next xs n x within is = next_or xs n x within ∙ ap (λ y. y ∷ drop (n + 1) xs) (sym is)

-- fronts, one after the other
pub with_front_twice : {A F : Type 0} (first second : List A) (read : Result (List A) F)
    → with_front (first ++ second) read ≡ with_front first (with_front second read)
with_front_twice first second (Ok xs) = ap Ok (append_assoc first second xs)
with_front_twice first second (Err fault) = refl

pub with_none : {A F : Type 0} (read : Result (List A) F) → with_front [] read ≡ read
with_none (Ok xs) = refl
with_none (Err fault) = refl

-- one item of what is read passes to the front
pub regroup : {A F : Type 0} (front : List A) (x : A) (read : Result (List A) F)
    → with_front front (read >>= λ rest. Ok (x ∷ rest)) ≡ with_front (front ++ x ∷ []) read
regroup front x (Ok rest) = ap Ok (sym (append_assoc front (x ∷ []) rest))
regroup front x (Err fault) = refl
