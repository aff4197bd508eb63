-- The map that is printed is read.
use Rattle.std.proofs.Common.{◌≡◌, ℕ, zero, suc, List, [], ◌∷◌, map, length, Ok, refl}
use Rattle.std.proofs.Common.{codes}
use Rattle.std.specs.List.{AllByRecursion}
use Rattle.std.proofs.lemmas.List.{length-map}
use Rattle.toml.specs.Data.{Data, Members, get_member}
use Rattle.mw_base.specs.declared.cause.Cause.TheVariants.{WrongKind, BadValue}
use Rattle.mw_board.specs.declared.parts.BoardParts.{BoardParts}
use Rattle.mw_board.specs.Rules.{map_bits_rule, map_entry_rule, map_entries_rule}
use Rattle.mw_boardfile.specs.Board.{map_of}
use Rattle.mw_boardfile.specs.Map.{natural_or_zero, bits_in, entry_in, entry_faults, entries_in}
use Rattle.mw_boardfile.specs.Values.{natural, list_or_none}
use Rattle.mw_boardfile.specs.Printed.{integer_of, unless_zero, list_unless_empty, map_printed, unless_empty}
use Rattle.mw_boardfile.specs.Tables.{table_of}
use Rattle.mw_boardfile.proofs.PrintedFields.{table_read}
use Rattle.mw_boardfile.proofs.PrintedLists.{IsRead, list_read, none_are, each_are}
use Rattle.mw_boardfile.proofs.Spelled.{above_zero}
use Rattle.mw_boardfile.proofs.Tables.{found}

number_read : (n : ℕ) → natural_or_zero (unless_zero integer_of n) ≡ Ok n
unfolding natural
number_read zero = refl
number_read (suc m) = rw (above_zero m) refl

bits_read : (width low n : ℕ) → map_bits_rule width low n ≡ Ok tt
    → bits_in width low (unless_zero integer_of n) ≡ Ok n
unfolding bits_in
bits_read width low n fits = rw (number_read n, fits) refl

-- a list that isn't printed where it is empty
pub list_or_none_read : (values : List Data) → list_or_none (list_unless_empty values) ≡ Ok values
list_or_none_read [] = refl
list_or_none_read (first ∷ rest) = list_read (first ∷ rest)

entry_read : (entry : ℕ) → map_entry_rule entry ≡ Ok tt → entry_in (integer_of entry) ≡ Ok entry
unfolding entry_in natural
entry_read entry fits = rw fits refl

each_entry : (entries : List ℕ) → AllByRecursion (λ entry. map_entry_rule entry ≡ Ok tt) entries
    → AllByRecursion (IsRead entry_in integer_of) entries
each_entry [] all = tt
each_entry (entry ∷ rest) all = (entry_read entry all.0, each_entry rest all.1)

entries_read : (bits : ℕ) (entries : List ℕ) → AllByRecursion (λ entry. map_entry_rule entry ≡ Ok tt) entries
    → map_entries_rule bits (length entries) ≡ Ok tt
    → entries_in bits (list_unless_empty (map integer_of entries)) ≡ Ok entries
unfolding entries_in entry_faults
entries_read bits entries all size =
    let each = each_entry entries all in
    rw (
      list_or_none_read (map integer_of entries),
      none_are entry_in integer_of WrongKind 0 entries each,
      none_are entry_in integer_of BadValue 0 entries each,
      length-map entries integer_of,
      size,
    )
    (each_are entry_in integer_of 0 entries each)

-- a document with this map
pub map_read : (p : BoardParts) (document : Members) → map_bits_rule p.width p.map_low p.map_bits ≡ Ok tt
    → AllByRecursion (λ entry. map_entry_rule entry ≡ Ok tt) p.map_entries
    → map_entries_rule p.map_bits (length p.map_entries) ≡ Ok tt
    → get_member (codes "map") document ≡ unless_empty (table_of (map_printed p))
    → map_of p.width document
    ≡ Ok (record { low = p.map_low; bits = p.map_bits; entries = p.map_entries })
unfolding map_of
map_read p document bits all size there =
    let at = found (map_printed p) refl in
    rw (
      there,
      table_read (table_of (map_printed p)),
      at (codes "low"),
      at (codes "bits"),
      at (codes "entries"),
      number_read p.map_low,
      bits_read p.width p.map_low p.map_bits bits,
      entries_read p.map_bits p.map_entries all size,
    ) refl
