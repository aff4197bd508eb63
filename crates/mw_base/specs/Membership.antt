-- Membership of a list of texts.
use Rattle.std.specs.Prelude.{ℕ, List, Bool}
use Rattle.std.specs.List.{list_any}
use Rattle.std.specs.Str.{bytes_eq}

-- one of these texts
abbrev pub is_one_of : List (List ℕ) → List ℕ → Bool
is_one_of texts text = list_any (bytes_eq text) texts
