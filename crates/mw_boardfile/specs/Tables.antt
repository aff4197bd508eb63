-- Tables as they are printed: members by their keys.
use Rattle.std.specs.Prelude.{ℕ, List, [], ◌∷◌, Option, Some, None}
use Rattle.std.specs.Ordering.{nat_cmp, match_ordering}
use Rattle.std.specs.Cmp.Lexicographic.{slice_cmp}
use Rattle.toml.specs.Data.{Data, Members, no_members, member}

-- the members with one more, by the bytes of the keys; a key that is there takes the value
abbrev pub put : List ℕ → Data → Members → Members
put key value no_members = member key value no_members
put key value (member other old rest) =
    match_ordering (slice_cmp nat_cmp key other)
    (member key value (member other old rest))
    (member other value rest)
    (member other old (put key value rest))

-- one more where there is a value
abbrev pub put_given : List ℕ → Option Data → Members → Members
put_given key None table = table
put_given key (Some value) table = put key value table

-- a key, and its value where it has one
abbrev pub Entry : Type 0
Entry = List ℕ × Option Data

-- the members with each of these that has a value
abbrev pub put_all : List Entry → Members → Members
put_all [] table = table
put_all (entry ∷ rest) table = put_given entry.0 entry.1 (put_all rest table)

-- the table of the keys that have a value
unfoldable pub table_of : List Entry → Members
table_of [] = no_members
table_of (entry ∷ rest) = put_given entry.0 entry.1 (table_of rest)
