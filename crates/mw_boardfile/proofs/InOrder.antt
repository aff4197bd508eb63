-- The fields that are read of a table stand in the order of its keys.
use Rattle.std.proofs.Common.{◌≡◌, ℕ, List, [], ◌∷◌, sym, subst, map}
use Rattle.std.specs.Prelude.{String, string_bytes, string_cmp}
use Rattle.std.specs.BTreeMap.{BTreeMap, IsOrdered}
use Rattle.std.specs.Cmp.Lexicographic.{slice_cmp}
use Rattle.std.specs.List.{AllByRecursion}
use Rattle.std.specs.List.Sorted.{IsStrictlySortedBy}
use Rattle.std.specs.Ordering.{nat_cmp}
use Rattle.std.specs.declared.alloc.Global.{Global}
use Rattle.std.specs.declared.cmp.Ordering.TheVariants.{Less}
use Rattle.toml.specs.View.{table_view, members_view}
use Rattle.toml.specs.declared.value.Value.{Value}
use Rattle.mw_board.specs.Order.{AreInOrder}
use Rattle.mw_board.specs.declared.field.NamedField.{NamedField}
use Rattle.mw_boardfile.specs.Kept.{names_of}

-- a key below others, seen as bytes
below_bytes : (key : String Global) (entries : List (String Global × Value))
    → AllByRecursion (λ other. string_cmp key other ≡ Less) (map (λ m. m.0) entries)
    → AllByRecursion (λ other. slice_cmp nat_cmp (string_bytes key) other ≡ Less) (names_of (members_view entries))
below_bytes key [] all = tt
below_bytes key (m ∷ rest) all = (all.0, below_bytes key rest all.1)

-- keys in order, seen as bytes
names_in_order : (entries : List (String Global × Value)) → IsStrictlySortedBy string_cmp (map (λ m. m.0) entries)
    → IsStrictlySortedBy (slice_cmp nat_cmp) (names_of (members_view entries))
unfolding IsStrictlySortedBy
names_in_order [] sorted = tt
names_in_order (m ∷ rest) sorted = (below_bytes m.0 rest sorted.0, names_in_order rest sorted.1)

-- the fields that have the names of a map whose keys ascend are in order
pub fields_in_order : (table : BTreeMap (String Global) Value) (fields : List NamedField)
    → IsOrdered string_cmp table → map (λ (f : NamedField). f.name) fields ≡ names_of (table_view table)
    → AreInOrder fields
fields_in_order table fields sorted names =
    subst (λ (ns : List (List ℕ)). IsStrictlySortedBy (slice_cmp nat_cmp) ns) (sym names)
    (names_in_order table.entries sorted)

-- no fields are in order
pub none_in_order : AreInOrder []
unfolding IsStrictlySortedBy
none_in_order = tt
