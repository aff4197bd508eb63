-- Loops over what is printed, an item at a time.
use Rattle.std.proofs.Common.{◌≡◌, ℕ, ◌+◌, ◌<◌, List, [], ◌∷◌, ◌++◌, map, length, get_or, take, Some, refl, sym, ap}
use Rattle.std.proofs.Common.{ap₂, ◌∙◌}
use Rattle.std.proofs.Common.{String, Global}
use Rattle.std.proofs.lemmas.List.{map-append, take_more}
use Rattle.toml.specs.Data.{table}
use Rattle.toml.specs.View.{members_view}
use Rattle.toml.specs.declared.value.Value.{Value}
use Rattle.mw_boardfile.specs.Printed.{unless_empty}

-- one more item
pub each_more : {A B C : Type 0} (f : B → C) (g : A → C) (done : List B) (x : B) (items : List A) (n : ℕ) (item : A)
    → n < length items → item ≡ get_or items n item → f x ≡ g item → map f done ≡ map g (take n items)
    → map f (done ++ x ∷ []) ≡ map g (take (n + 1) items)
each_more {A} {B} {C} f g done x items n item within is same so_far =
    map-append f done (x ∷ [])
    ∙ ap₂ (λ (front back : List C). front ++ back) so_far (ap (λ (y : C). y ∷ []) (same ∙ ap g is))
    ∙ sym (ap (map g) (take_more items n item within) ∙ map-append g (take n items) (get_or items n item ∷ []))

-- a table that has members
pub filled : (entries : List (String Global × Value)) → (length entries ≡ 0 → ⊥)
    → Some (table (members_view entries)) ≡ unless_empty (members_view entries)
filled [] some = absurd (some refl)
filled (entry ∷ rest) some = refl
