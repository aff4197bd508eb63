-- A printed table has no unknown key, and is shallow.
use Rattle.std.proofs.Common.{◌≡◌, ℕ, List, [], ◌∷◌, true, Option, Some, None, refl}
use Rattle.std.proofs.Common.{Ordering, Less, Equal, Greater, nat_cmp}
use Rattle.std.specs.List.{list_all}
use Rattle.std.specs.Ordering.{match_ordering}
use Rattle.std.specs.Cmp.Lexicographic.{slice_cmp}
use Rattle.std.proofs.lemmas.Bool.{and_parts}
use Rattle.toml.specs.Data.{Data, Members, no_members, member}
use Rattle.mw_boardfile.specs.Unknown.{is_one_of, with_members}
use Rattle.mw_boardfile.specs.Tables.{put, put_given, Entry, table_of}

-- each key is known
abbrev AllKnown : List (List ℕ) → Members → Type 0
AllKnown known no_members = Unit {0}
AllKnown known (member key value rest) = (is_one_of known key ≡ true) × AllKnown known rest

none_unknown : (known : List (List ℕ)) (prefix : List ℕ) (table : Members) (least : Option (List ℕ))
    → AllKnown known table → with_members known prefix table least ≡ least
none_unknown known prefix no_members least all = refl
none_unknown known prefix (member key value rest) least all = rw all.0 (none_unknown known prefix rest least all.1)

known_at : (known : List (List ℕ)) (o : Ordering) (a b c : Members) → AllKnown known a → AllKnown known b
    → AllKnown known c → AllKnown known (match_ordering o a b c)
known_at known Less a b c x y z = x
known_at known Equal a b c x y z = y
known_at known Greater a b c x y z = z

put_known : (known : List (List ℕ)) (key : List ℕ) (value : Data) (table : Members) → is_one_of known key ≡ true
    → AllKnown known table → AllKnown known (put key value table)
put_known known key value no_members is all = (is, tt)
put_known known key value (member other old rest) is all =
    known_at known (slice_cmp nat_cmp key other) _ _ _ (is, all) all
    (all.0, put_known known key value rest is all.1)

given_known : (known : List (List ℕ)) (key : List ℕ) (value : Option Data) (table : Members)
    → is_one_of known key ≡ true → AllKnown known table → AllKnown known (put_given key value table)
given_known known key None table is all = all
given_known known key (Some value) table is all = put_known known key value table is all

entries_known : (known : List (List ℕ)) (entries : List Entry)
    → list_all (λ (e : Entry). is_one_of known e.0) entries ≡ true → AllKnown known (table_of entries)
unfolding table_of
entries_known known [] are = tt
entries_known known (e ∷ rest) are =
    let both = and_parts (is_one_of known e.0) (list_all (λ (f : Entry). is_one_of known f.0) rest) are in
    given_known known e.0 e.1 (table_of rest) both.0 (entries_known known rest both.1)

-- a table of known keys has no unknown one
pub known_only : (known : List (List ℕ)) (prefix : List ℕ) (entries : List Entry) (least : Option (List ℕ))
    → list_all (λ (e : Entry). is_one_of known e.0) entries ≡ true
    → with_members known prefix (table_of entries) least ≡ least
known_only known prefix entries least are =
    none_unknown known prefix (table_of entries) least (entries_known known entries are)
