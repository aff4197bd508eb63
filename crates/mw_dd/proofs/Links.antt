-- Linked keys, and one more.
use Rattle.std.proofs.Common.{◌≡◌, ◌⊎◌, inl, inr, ℕ, ◌+◌, ◌-◌, ◌<◌, ◌≤◌, ◌^◌, List, [], ◌∷◌, ◌++◌, length, set}
use Rattle.std.proofs.Common.{zero, suc, refl, ap, sym, ◌∙◌, arith, subst}
use Rattle.std.specs.Prelude.{slice_get, slice_index, Some}
use Rattle.std.proofs.lemmas.Bool.{cases_eq}
use Rattle.std.proofs.lemmas.List.{length-append, length-set, get_or-set_same, get_or-set_other}
use Rattle.std.proofs.lemmas.Option.{slice_get_within}
use Rattle.mw_dd.specs.declared.table.Entry.{Entry}
use Rattle.mw_dd.specs.Links.{bucket_of, Leads, here, on, AreLinked, IsAbsent, keys_of}
use Rattle.mw_dd.proofs.Lists.{get-push, get-push_old, get-push_new}

-- the head of a bucket, where another one is changed
head_other : (heads : List ℕ) (b c place : ℕ) → (c ≡ b → ⊥) → slice_index (set heads b place) c ≡ slice_index heads c
head_other heads b c place other = get_or-set_other heads b c place 0 other

module _ {K : Type 0} where
  -- the links go on leading where they led
  leads-push : (entries : List (Entry K)) (entry : Entry K) (from to : ℕ) → Leads entries from to
      → Leads (entries ++ entry ∷ []) from to
  leads-push entries entry from to here = here
  leads-push entries entry from to (on {entry = first} at rest) =
      on (get-push_old entries entry from first at) (leads-push entries entry first.next to rest)

  -- they lead to a place from places alone
  leads_within : (entries : List (Entry K)) (from to : ℕ) → Leads entries from to → to < length entries
      → from < length entries
  leads_within entries from to here below = below
  leads_within entries from to (on {entry = first} at rest) below = slice_get_within entries from first at

  module _ (hash_of : K → ℕ) (entries : List (Entry K)) (heads : List ℕ) (entry : Entry K)
      (are : AreLinked hash_of entries heads) where
    abbrev own : ℕ
    own = bucket_of (hash_of entry.key) (length heads)

    old_linked : own < length heads → (slice_index heads own < length entries → entry.next ≡ slice_index heads own)
        → (i : ℕ) (other : Entry K) → slice_get entries i ≡ Some other
        → Leads (entries ++ entry ∷ [])
        (slice_index (set heads own (length entries)) (bucket_of (hash_of other.key) (length heads))) i
    old_linked below next i other at =
        let c = bucket_of (hash_of other.key) (length heads) in
        let led = are.linked i other at in
        let within = slice_get_within entries i other at in
        elim (cases_eq c own) [
          | inl same ↦
              let head : slice_index (set heads own (length entries)) c ≡ length entries =
              ap (slice_index (set heads own (length entries))) same
              ∙ get_or-set_same heads own (length entries) 0 below in
              let old : slice_index heads c ≡ entry.next =
              ap (slice_index heads) same
              ∙ sym (next (subst (λ (b : ℕ). slice_index heads b < length entries) same
              (leads_within entries (slice_index heads c) i led within))) in
              subst (λ (from : ℕ). Leads (entries ++ entry ∷ []) from i) (sym head)
              (on (get-push_new entries entry)
              (subst (λ (from : ℕ). Leads (entries ++ entry ∷ []) from i) old
              (leads-push entries entry (slice_index heads c) i led)))
          | inr other_bucket ↦
              subst (λ (from : ℕ). Leads (entries ++ entry ∷ []) from i)
              (sym (head_other heads own c (length entries) other_bucket))
              (leads-push entries entry (slice_index heads c) i led)
        ]

    new_linked : own < length heads → (i : ℕ) (other : Entry K) → i ≡ length entries → entry ≡ other
        → Leads (entries ++ entry ∷ [])
        (slice_index (set heads own (length entries)) (bucket_of (hash_of other.key) (length heads))) i
    new_linked below i other last same =
        let head : slice_index (set heads own (length entries)) own ≡ length entries =
        get_or-set_same heads own (length entries) 0 below in
        let from : slice_index (set heads own (length entries)) (bucket_of (hash_of other.key) (length heads)) ≡ i =
        ap (λ (x : Entry K). slice_index (set heads own (length entries)) (bucket_of (hash_of x.key) (length heads)))
        (sym same) ∙ head ∙ sym last in
        subst (λ (from : ℕ). Leads (entries ++ entry ∷ []) from i) (sym from) here

    -- one more key, at the head of its bucket
    pub linked-push : own < length heads → length entries + 1 ≤ 2 ^ 32 - 16
        → (entry.next < length entries) ⊎ (entry.next ≡ 2 ^ 32 - 1)
        → (slice_index heads own < length entries → entry.next ≡ slice_index heads own)
        → AreLinked hash_of (entries ++ entry ∷ []) (set heads own (length entries))
    linked-push below few earlier next =
        let count = length-set heads own (length entries) in
        record {
          buckets = omega (arith, count, below);
          few = omega (arith, length-append entries (entry ∷ []), few);
          earlier = λ i other at. elim (get-push entries entry i other at) [
            | inl old ↦ are.earlier i other old
            | inr new ↦ subst (λ (x : Entry K). (x.next < i) ⊎ (x.next ≡ 2 ^ 32 - 1)) new.1
                (subst (λ (n : ℕ). (entry.next < n) ⊎ (entry.next ≡ 2 ^ 32 - 1)) (sym new.0) earlier)
          ];
          linked = λ i other at.
              subst (λ (n : ℕ). Leads (entries ++ entry ∷ [])
              (slice_index (set heads own (length entries)) (bucket_of (hash_of other.key) n)) i) (sym count)
              (elim (get-push entries entry i other at) [
                | inl old ↦ old_linked below next i other old
                | inr new ↦ new_linked below i other new.0 new.1
              ]);
        }

  -- ---- what is found

  -- where the search may go on: the links lead from here to each entry with the key
  abbrev pub Ahead : List (Entry K) → K → ℕ → Type 0
  Ahead entries key place = (i : ℕ) (entry : Entry K) → slice_get entries i ≡ Some entry → entry.key ≡ key
      → Leads entries place i

  ahead_from : (entries : List (Entry K)) (first : Entry K) (place i : ℕ) (entry : Entry K)
      → slice_get entries place ≡ Some first → slice_get entries i ≡ Some entry → ¬ (first.key ≡ entry.key)
      → Leads entries place i → Leads entries first.next i
  ahead_from entries first place i entry at of differ here =
      absurd (differ (cc))
  ahead_from entries first place i entry at of differ (on {entry = other} by rest) =
      let same : other ≡ first = cc in
      subst (λ (x : Entry K). Leads entries x.next i) same rest

  pub ahead-next : (entries : List (Entry K)) (key : K) (first : Entry K) (place : ℕ)
      → slice_get entries place ≡ Some first → ¬ (first.key ≡ key) → Ahead entries key place
      → Ahead entries key first.next
  ahead-next entries key first place at differ ahead = λ i entry of same.
      ahead_from entries first place i entry at of (λ e. differ (e ∙ same)) (ahead i entry of same)

  past_none : (entries : List (Entry K)) (place i : ℕ) → length entries ≤ place → i < length entries
      → Leads entries place i → ⊥
  past_none entries place i past within here = omega (arith, past, within)
  past_none entries place i past within (on {entry = first} at rest) =
      let there = slice_get_within entries place first at in
      omega (arith, past, there)

  entry_of : (entries : List (Entry K)) (i : ℕ) (key : K) → slice_get (keys_of entries) i ≡ Some key
      → (entry : Entry K) × (slice_get entries i ≡ Some entry) × (entry.key ≡ key)
  entry_of [] i key e = cc
  entry_of (x ∷ xs) zero key e = (x, refl, cc)
  entry_of (x ∷ xs) (suc i) key e = entry_of xs i key e

  pub absent : (entries : List (Entry K)) (key : K) (place : ℕ) → length entries ≤ place → Ahead entries key place
      → IsAbsent (keys_of entries) key
  absent entries key place past ahead = λ i at.
      let found = entry_of entries i key at in
      past_none entries place i past (slice_get_within entries i found.0 found.1)
      (ahead i found.0 found.1 found.2)

  pub key_at : (entries : List (Entry K)) (i : ℕ) (entry : Entry K) → slice_get entries i ≡ Some entry
      → slice_get (keys_of entries) i ≡ Some entry.key
  key_at [] i entry e = cc
  key_at (x ∷ xs) zero entry e = cc
  key_at (x ∷ xs) (suc i) entry e = key_at xs i entry e
