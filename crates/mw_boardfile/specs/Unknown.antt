-- Keys that the format doesn't have.
use Rattle.std.specs.Prelude.{ℕ, ◌+◌, List, map, [], ◌∷◌, ◌++◌, codes, Bool, Option, Some, None, Result, Ok, Err}
use Rattle.std.specs.Prelude.{if◌then◌else◌, ◌==◌}
use Rattle.std.specs.List.{list_any}
use Rattle.std.specs.Str.{bytes_eq}
use Rattle.std.specs.Ordering.{nat_cmp, is_lt}
use Rattle.std.specs.Cmp.Lexicographic.{slice_cmp}
use Rattle.toml.specs.Data.{Data, Items, Members, no_members, member, get_member, as_array, as_table}
use Rattle.mw_base.specs.declared.cause.Cause.{Cause}
use Rattle.mw_base.specs.declared.cause.Cause.TheVariants.{UnknownKey}
use Rattle.mw_base.specs.Numbers.{decimal}
use Rattle.mw_board.specs.Points.{all_points, name_of}
use Rattle.mw_boardfile.specs.declared.unknown.KeyTable.{KeyTable}
use Rattle.mw_boardfile.specs.declared.unknown.KeyTable.TheVariants.{File, SecondFile, FlipFlop, Control, Select, Map}
use Rattle.mw_boardfile.specs.declared.fault.KeyFault.{KeyFault}
use Rattle.mw_boardfile.specs.Sizes.{version_in}
use Rattle.mw_boardfile.specs.Values.{values_of}

-- ---- the keys of the format

-- the keys of a file of version 1
abbrev pub file_keys : List (List ℕ)
file_keys =
    codes "version" ∷ codes "width" ∷ codes "microword" ∷ codes "address" ∷ codes "fill" ∷ codes "unset"
    ∷ codes "vector" ∷ codes "fields" ∷ codes "flipflop" ∷ codes "control" ∷ codes "select" ∷ codes "map" ∷ []

-- those of a file of version 2
abbrev pub second_file_keys : List (List ℕ)
second_file_keys = codes "stack" ∷ file_keys

-- the keys of a flip-flop
abbrev pub flipflop_keys : List (List ℕ)
flipflop_keys = codes "name" ∷ codes "control" ∷ codes "load" ∷ []

-- the control points
abbrev pub control_keys : List (List ℕ)
control_keys = map name_of all_points

-- the lists
abbrev pub select_keys : List (List ℕ)
select_keys = codes "carry_in" ∷ codes "condition" ∷ codes "ram_link" ∷ codes "q_link" ∷ codes "d" ∷ []

-- the keys of the map
abbrev pub map_keys : List (List ℕ)
map_keys = codes "low" ∷ codes "bits" ∷ codes "entries" ∷ []

-- the keys that the format has in such a table
abbrev pub keys_of : KeyTable → List (List ℕ)
keys_of File = file_keys
keys_of SecondFile = second_file_keys
keys_of FlipFlop = flipflop_keys
keys_of Control = control_keys
keys_of Select = select_keys
keys_of Map = map_keys

-- the file itself, by its version: of version 1, where that isn't the integer 2
abbrev pub file_of : Result ℕ Cause → KeyTable
file_of (Ok version) = if version == 2 then SecondFile else File
file_of (Err cause) = File

-- one of these keys
abbrev pub is_one_of : List (List ℕ) → List ℕ → Bool
is_one_of keys key = list_any (bytes_eq key) keys

-- ---- the least of those that aren't, by the bytes of their dotted paths

-- the lesser of the least so far and one more
abbrev pub lesser : Option (List ℕ) → List ℕ → Option (List ℕ)
lesser None key = Some key
lesser (Some least) key = if is_lt (slice_cmp nat_cmp key least) then Some key else Some least

-- with one key, where it isn't known; the prefix stands before it
abbrev pub with_key : List (List ℕ) → List ℕ → List ℕ → Option (List ℕ) → Option (List ℕ)
with_key known prefix key least = if is_one_of known key then least else lesser least (prefix ++ key)

-- with the keys of a table that aren't known
abbrev pub with_members : List (List ℕ) → List ℕ → Members → Option (List ℕ) → Option (List ℕ)
with_members known prefix no_members least = least
with_members known prefix (member key value rest) least =
    with_members known prefix rest (with_key known prefix key least)

-- with those of a value, which has none where it is no table
abbrev pub with_table : List (List ℕ) → List ℕ → Option Members → Option (List ℕ) → Option (List ℕ)
with_table known prefix None least = least
with_table known prefix (Some table) least = with_members known prefix table least

-- a value that is a table, if it is one
abbrev pub table_at : Option Data → Option Members
table_at None = None
table_at (Some value) = as_table value

-- with those of the table under a key of the file
abbrev pub with_table_under : List (List ℕ) → List ℕ → Members → Option (List ℕ) → Option (List ℕ)
with_table_under known key document least =
    with_table known (key ++ codes ".") (table_at (get_member key document)) least

-- with those of the flip-flops, where the first of these has the number n
abbrev pub with_flipflops : ℕ → List Data → Option (List ℕ) → Option (List ℕ)
with_flipflops n [] least = least
with_flipflops n (value ∷ rest) least =
    with_flipflops (n + 1) rest
    (with_table flipflop_keys (codes "flipflop." ++ (decimal n ++ codes ".")) (as_table value) least)

-- the values of a list, if there is one
abbrev pub flipflops_in : Option Items → List Data
flipflops_in None = []
flipflops_in (Some items) = values_of items

-- the entries of `flipflop`, where its value is a list
abbrev pub flipflops_at : Option Data → List Data
flipflops_at None = []
flipflops_at (Some value) = flipflops_in (as_array value)

-- the least unknown key of a document
unfoldable pub unknown_key : Members → Option (List ℕ)
unknown_key document =
    with_flipflops 0 (flipflops_at (get_member (codes "flipflop") document))
    (with_table_under map_keys (codes "map") document
    (with_table_under select_keys (codes "select") document
    (with_table_under control_keys (codes "control") document
    (with_members (keys_of (file_of (version_in (get_member (codes "version") document)))) [] document None))))

-- no key is unknown; else cause 22 at the least that is
abbrev pub known_or_fault : Option (List ℕ) → Result (Unit {0}) KeyFault
known_or_fault None = Ok tt
known_or_fault (Some key) = Err (record { cause = UnknownKey; key = key })
