-- What a printed table holds.
use Rattle.std.proofs.Common.{◌≡◌, ℕ, ◌||◌, List, [], ◌∷◌, Bool, true, false, not, ◌&&◌, Option, Some, None}
use Rattle.std.proofs.Common.{refl, sym, ap, ◌∙◌}
use Rattle.std.proofs.Common.{Ordering, Less, Equal, Greater, is_eq, nat_cmp, cond}
use Rattle.std.specs.List.{list_any}
use Rattle.std.specs.Ordering.{match_ordering}
use Rattle.std.specs.Cmp.Lexicographic.{slice_cmp}
use Rattle.std.specs.Cmp.{tied_itself}
use Rattle.std.proofs.lemmas.Bool.{and_parts}
use Rattle.std.proofs.lemmas.Cmp.{nat_list_cmp_total}
use Rattle.std.proofs.lemmas.Slice.Eq.{bytes_eq-Decides}
use Rattle.std.proofs.lemmas.Map.Text.{is_eq-slice_cmp}
use Rattle.toml.specs.Data.{Data, Members, no_members, member, get_member, same_key}
use Rattle.std.specs.Prelude.{String, string_bytes, string_cmp}
use Rattle.std.specs.BTreeMap.{insert_entry}
use Rattle.std.specs.declared.alloc.Global.{Global}
use Rattle.toml.specs.View.{view, members_view}
use Rattle.toml.specs.declared.value.Value.{Value}
use Rattle.mw_boardfile.specs.Tables.{put, put_given, Entry, table_of}

-- what stands under a key
abbrev pub find : List ℕ → List Entry → Option Data
find key [] = None
find key (entry ∷ rest) = cond (same_key key entry.0) entry.1 (find key rest)

-- no key stands twice
abbrev pub are_distinct : List Entry → Bool
are_distinct [] = true
are_distinct (entry ∷ rest) = not (list_any (λ other. same_key entry.0 other.0) rest) && are_distinct rest

-- keys that are the same are one text
pub one_key : (k l : List ℕ) → same_key k l ≡ true → k ≡ l
one_key k l same = (bytes_eq-Decides k l).0 (sym (is_eq-slice_cmp k l) ∙ same)

here_at : (o : Ordering) (k : List ℕ) (v : Data) (l : List ℕ) (d : Data) (ms : Members) → o ≡ slice_cmp nat_cmp k l
    → get_member k (put k v ms) ≡ Some v
    → get_member k (match_ordering o (member k v (member l d ms)) (member l v ms) (member l d (put k v ms))) ≡ Some v
here_at Less k v l d ms same ih = rw (tied_itself nat_list_cmp_total k) refl
here_at Equal k v l d ms same ih = rw (← same) refl
here_at Greater k v l d ms same ih = rw (← same) ih

-- the key that was put
pub get_here : (k : List ℕ) (v : Data) (ms : Members) → get_member k (put k v ms) ≡ Some v
get_here k v no_members = rw (tied_itself nat_list_cmp_total k) refl
get_here k v (member l d ms) = here_at (slice_cmp nat_cmp k l) k v l d ms refl (get_here k v ms)

skip : {A : Type 0} (o : Ordering) (a b c : A) → is_eq o ≡ false → a ≡ c → match_ordering o a b a ≡ c
skip Less a b c other e = e
skip Equal a b c other e = cc
skip Greater a b c other e = e

both : {A : Type 0} (o : Ordering) (a b c : A) → a ≡ c → match_ordering o a b a ≡ match_ordering o c b c
both o a b c e = rw e refl

other_at : (o : Ordering) (j k : List ℕ) (v : Data) (l : List ℕ) (d : Data) (ms : Members) → o ≡ slice_cmp nat_cmp k l
    → same_key j k ≡ false → get_member j (put k v ms) ≡ get_member j ms
    → get_member j (match_ordering o (member k v (member l d ms)) (member l v ms) (member l d (put k v ms)))
    ≡ get_member j (member l d ms)
other_at Less j k v l d ms same other ih = skip (slice_cmp nat_cmp j k) _ _ _ other refl
other_at Equal j k v l d ms same other ih =
    let one : k ≡ l = one_key k l (rw (← same) refl) in
    let apart : same_key j l ≡ false = rw (← one) other in
    skip (slice_cmp nat_cmp j l) _ _ _ apart (sym (skip (slice_cmp nat_cmp j l) _ _ _ apart refl))
other_at Greater j k v l d ms same other ih = both (slice_cmp nat_cmp j l) _ _ _ ih

-- any other key
pub get_other : (j k : List ℕ) (v : Data) (ms : Members) → same_key j k ≡ false
    → get_member j (put k v ms) ≡ get_member j ms
get_other j k v no_members other = skip (slice_cmp nat_cmp j k) _ _ _ other refl
get_other j k v (member l d ms) other =
    other_at (slice_cmp nat_cmp k l) j k v l d ms refl other (get_other j k v ms other)

-- a key that doesn't stand there has no value
absent : (k : List ℕ) (entries : List Entry) → list_any (λ (e : Entry). same_key k e.0) entries ≡ false
    → find k entries ≡ None
absent k [] none = refl
absent k (e ∷ rest) none =
    by_key (same_key k e.0) (list_any (λ (f : Entry). same_key k f.0) rest) e.1 none (absent k rest)
  where
    by_key : (b c : Bool) (o : Option Data) {r : Option Data} → (b || c) ≡ false → (c ≡ false → r ≡ None)
        → cond b o r ≡ None
    by_key true c o none ih = cc
    by_key false c o none ih = ih none

get_given : (k : List ℕ) (e : Entry) (ms : Members) (b : Bool) → same_key k e.0 ≡ b
    → (b ≡ true → get_member k ms ≡ None)
    → get_member k (put_given e.0 e.1 ms) ≡ cond b e.1 (get_member k ms)
get_given k (l, None) ms true same none = none refl
get_given k (l, None) ms false same none = refl
get_given k (l, Some v) ms true same none =
    let one : k ≡ l = one_key k l same in
    rw one (get_here l v ms)
get_given k (l, Some v) ms false same none = get_other k l v ms same

none_of : (b c : Bool) → (not b && c) ≡ true → b ≡ false
none_of true c h = cc
none_of false c h = refl

-- what a table of different keys holds
pub found : (entries : List Entry) → are_distinct entries ≡ true → (k : List ℕ)
    → get_member k (table_of entries) ≡ find k entries
unfolding table_of
found [] distinct k = refl
found (e ∷ rest) distinct k =
    let others = and_parts (not (list_any (λ (f : Entry). same_key e.0 f.0) rest)) (are_distinct rest) distinct in
    let once : list_any (λ (f : Entry). same_key e.0 f.0) rest ≡ false = none_of _ _ distinct in
    let ih : get_member k (table_of rest) ≡ find k rest = found rest others.1 k in
    get_given k e (table_of rest) (same_key k e.0) refl
    (λ same. ih ∙ rw (one_key k e.0 same) (absent e.0 rest once))
    ∙ ap (cond (same_key k e.0) e.1) ih

-- ---- the map of a table

match_members : (o : Ordering) (a b c : List (String Global × Value))
    → members_view (match_ordering o a b c) ≡ match_ordering o (members_view a) (members_view b) (members_view c)
match_members Less a b c = refl
match_members Equal a b c = refl
match_members Greater a b c = refl

-- what its members are after an insert
pub members_put : (entries : List (String Global × Value)) (key : String Global) (value : Value)
    → members_view (insert_entry string_cmp entries key value)
    ≡ put (string_bytes key) (view value) (members_view entries)
members_put [] key value = refl
members_put (e ∷ rest) key value =
    match_members (string_cmp key e.0) _ _ _ ∙ rw (members_put rest key value) refl
