-- Membership of a list of texts that are borrowed.
use Rattle.std.proofs.Common.{◌≡◌, ℕ, List, [], ◌∷◌, map, refl, ap}
use Rattle.std.specs.Prelude.{◌||◌}
use Rattle.std.specs.Borrow.{Bor}
use Rattle.std.specs.List.{list_any}
use Rattle.std.specs.Str.{bytes_eq}
use Rattle.mw_base.specs.Membership.{is_one_of}

pub borrowed : (texts : List (Bor (List ℕ))) (text : List ℕ)
    → list_any (λ other. bytes_eq text other.now) texts ≡ is_one_of (map (λ other. other.now) texts) text
borrowed [] text = refl
borrowed (other ∷ rest) text = ap (λ found. bytes_eq text other.now || found) (borrowed rest text)
