-- A file that is printed has no unknown key.
use Rattle.std.proofs.Common.{◌≡◌, ℕ, ◌+◌, ◌++◌, List, [], ◌∷◌, map, true, Option, None, refl, codes}
use Rattle.std.specs.List.{list_all}
use Rattle.toml.specs.Data.{Data, Members, no_members, member, get_member}
use Rattle.mw_board.specs.declared.field.NamedField.{NamedField}
use Rattle.mw_board.specs.declared.flipflop.FlipFlop.{FlipFlop}
use Rattle.mw_board.specs.declared.parts.BoardParts.{BoardParts}
use Rattle.mw_base.specs.Numbers.{decimal}
use Rattle.mw_boardfile.specs.Printed.{unless_empty, list_unless_empty, points_printed, lists_printed, map_printed}
use Rattle.mw_boardfile.specs.Printed.{flipflop_keys_printed, flipflop_printed, flipflops_printed, document_printed}
use Rattle.mw_boardfile.specs.Sizes.{version_in}
use Rattle.mw_boardfile.specs.Tables.{Entry, table_of}
use Rattle.mw_boardfile.specs.Unknown.{second_file_keys, flipflop_keys, control_keys, select_keys, map_keys, is_one_of}
use Rattle.mw_boardfile.specs.Unknown.{with_members, with_table, table_at, with_table_under, with_flipflops}
use Rattle.mw_boardfile.specs.Unknown.{flipflops_at}
use Rattle.mw_boardfile.specs.Unknown.{unknown_key}
use Rattle.mw_boardfile.specs.Values.{natural}
use Rattle.mw_boardfile.proofs.PrintedKeys.{known_only}
use Rattle.mw_boardfile.proofs.PrintedLists.{values_read}
use Rattle.mw_boardfile.proofs.Tables.{found}

table_known : (known : List (List ℕ)) (prefix : List ℕ) (table : Members) (least : Option (List ℕ))
    → with_members known prefix table least ≡ least
    → with_table known prefix (table_at (unless_empty table)) least ≡ least
table_known known prefix no_members least is = refl
table_known known prefix (member key value rest) least is = is

-- a table of known keys under a key of the file
known_under : (known : List (List ℕ)) (key : List ℕ) (document : Members) (entries : List Entry)
    → get_member key document ≡ unless_empty (table_of entries)
    → list_all (λ (e : Entry). is_one_of known e.0) entries ≡ true → with_table_under known key document None ≡ None
known_under known key document entries there are =
    rw there (table_known known (key ++ codes ".") (table_of entries) None
    (known_only known (key ++ codes ".") entries None are))

flipflops_known : (n : ℕ) (fields : List NamedField) (flipflops fs : List FlipFlop)
    → with_flipflops n (map (flipflop_printed fields flipflops) fs) None ≡ None
unfolding table_of
flipflops_known n fields flipflops [] = refl
flipflops_known n fields flipflops (f ∷ rest) =
    rw (known_only flipflop_keys (codes "flipflop." ++ (decimal n ++ codes "."))
    (flipflop_keys_printed fields flipflops f) None refl) (flipflops_known (n + 1) fields flipflops rest)

flipflops_there : (values : List Data) → flipflops_at (list_unless_empty values) ≡ values
flipflops_there [] = refl
flipflops_there (value ∷ rest) = values_read (value ∷ rest)

pub document_known : (p : BoardParts) → unknown_key (table_of (document_printed p)) ≡ None
unfolding unknown_key document_printed version_in natural
document_known p =
    let document = table_of (document_printed p) in
    let at = found (document_printed p) refl in
    rw (
      at (codes "version"),
      known_only second_file_keys [] (document_printed p) None refl,
      known_under control_keys (codes "control") document (points_printed p.fields p.control)
          (at (codes "control")) refl,
      known_under select_keys (codes "select") document (lists_printed p) (at (codes "select")) refl,
      known_under map_keys (codes "map") document (map_printed p) (at (codes "map")) refl,
      at (codes "flipflop"),
      flipflops_there (flipflops_printed p.fields p.flipflop),
    ) (flipflops_known 0 p.fields p.flipflop p.flipflop)
