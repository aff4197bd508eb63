-- Names kept in a map.
use Rattle.std.proofs.Common.{◌≡◌, ℕ, List, Some}
use Rattle.std.specs.Borrow.{Bor}
use Rattle.std.specs.HashMap.{HashMap, get_by, UpdatesBy}
use Rattle.std.specs.Str.{bytes_eq}
use Rattle.std.proofs.lemmas.Map.Text.{hash_map_updates_str}
use Rattle.mw_base.specs.Named.{with_name}

-- after one more entry the names of a map stand for what they stood for, and the new one for its meaning
pub one_more : {M S : Type 0} (old new : HashMap (Bor (List ℕ)) M S) (name : List ℕ) (meaning : M)
    → UpdatesBy (λ x y. bytes_eq x.now y.now) (λ key. bytes_eq name key.now) old new (Some meaning)
    → (λ (other : List ℕ). get_by (λ key. bytes_eq other key.now) new)
    ≡ with_name (λ other. get_by (λ key. bytes_eq other key.now) old) name meaning
one_more old new name meaning updates = λ i other. hash_map_updates_str name old new (Some meaning) updates other i
