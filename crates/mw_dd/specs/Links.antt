-- Keys that are linked, each bucket's from its last one.
use Rattle.std.specs.Prelude.{◌≡◌, ◌⊎◌, ℕ, ◌-◌, ◌<◌, ◌≤◌, ◌^◌, List, length, map, slice_get, slice_index, Some, bit_and}
use Rattle.mw_dd.specs.declared.table.Entry.{Entry}

-- the bucket of a hash, among so many
abbrev pub bucket_of : (hash count : ℕ) → ℕ
bucket_of hash count = bit_and hash (count - 1)

-- a key isn't among these
abbrev pub IsAbsent : {K : Type 0} → List K → K → Type 0
IsAbsent keys key = (i : ℕ) → ¬ (slice_get keys i ≡ Some key)

-- the key of an entry
abbrev pub key_of : {K : Type 0} → Entry K → K
key_of entry = entry.key

-- the keys of entries
abbrev pub keys_of : {K : Type 0} → List (Entry K) → List K
keys_of entries = map key_of entries

-- the links lead from one place to another
pub data Leads {K : Type 0} (entries : List (Entry K)) : (from to : ℕ) → Type 0 where
  here : {at : ℕ} → Leads entries at at
  on : {at to : ℕ} {entry : Entry K} → slice_get entries at ≡ Some entry → Leads entries entry.next to
      → Leads entries at to

-- the links go to earlier places or to none, and lead from the head of a key's bucket to it
pub record AreLinked {K : Type 0} (hash_of : K → ℕ) (entries : List (Entry K)) (heads : List ℕ) : Type 0 where
  pub buckets : 0 < length heads
  pub few : length entries ≤ 2 ^ 32 - 16
  pub earlier : (i : ℕ) (entry : Entry K) → slice_get entries i ≡ Some entry
      → (entry.next < i) ⊎ (entry.next ≡ 2 ^ 32 - 1)
  pub linked : (i : ℕ) (entry : Entry K) → slice_get entries i ≡ Some entry
      → Leads entries (slice_index heads (bucket_of (hash_of entry.key) (length heads))) i
