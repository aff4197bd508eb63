-- Keys of documents, and the values of lists.
use Rattle.std.proofs.Common.{◌≡◌, ◌≢◌, ℕ, false, List, [], ◌∷◌, refl, ap, ◌∙◌, inl, inr}
use Rattle.std.specs.Str.{bytes_eq}
use Rattle.std.proofs.lemmas.Bool.{cases_Bool}
use Rattle.std.proofs.lemmas.Slice.Eq.{bytes_eq-Decides}
use Rattle.std.proofs.lemmas.Map.Text.{is_eq-slice_cmp}
use Rattle.toml.specs.Data.{same_key}
use Rattle.toml.specs.View.{view, items_view}
use Rattle.toml.specs.declared.value.Value.{Value}
use Rattle.mw_boardfile.specs.Values.{values_of}
use Rattle.mw_boardfile.specs.Views.{data_of}

-- different texts are different keys
pub same_key_other : (key other : List ℕ) → key ≢ other → same_key key other ≡ false
same_key_other key other differ = is_eq-slice_cmp key other ∙ elim (cases_Bool (bytes_eq key other)) [
  | inl same ↦ absurd (differ ((bytes_eq-Decides key other).0 same))
  | inr apart ↦ apart
]

-- the values of a list are those of its array
pub values_of-items_view : (values : List Value) → values_of (items_view values) ≡ data_of values
values_of-items_view [] = refl
values_of-items_view (value ∷ values) = ap (λ rest. view value ∷ rest) (values_of-items_view values)
