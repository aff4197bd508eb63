-- Open `if`s, of which the code keeps the innermost last.
use Rattle.std.proofs.Common.{◌≡◌, List, [], ◌∷◌, ◌++◌, map, reverse, ap, ◌∙◌}
use Rattle.std.proofs.lemmas.List.{map-append, reverse-append}

-- the last is the first of all, seen from the end
pub last_first : {A B : Type 0} (f : A → B) (front : List A) (last : A)
    → reverse (map f (front ++ last ∷ [])) ≡ f last ∷ reverse (map f front)
last_first f front last = ap reverse (map-append f front (last ∷ [])) ∙ reverse-append (map f front) (f last ∷ [])
