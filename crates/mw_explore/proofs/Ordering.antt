-- The order of cases, and which of them kept bits lead to.
use Rattle.std.proofs.Common.{◌≡◌, ◌≢◌, ◌⊎◌, inl, inr, List, [], ◌∷◌, ◌++◌, Bool}
use Rattle.std.proofs.Common.{true, false, refl, sym, ap, ap₂, ◌∙◌, subst, append_assoc, append-nil}
use Rattle.std.specs.Prelude.{Option, Some, None, if◌then◌else◌}
use Rattle.std.proofs.lemmas.List.{map-append}
use Rattle.mw_term.specs.declared.decided.DecidedKind.{DecidedKind}
use Rattle.mw_term.specs.declared.decided.Decided.{Decided}
use Rattle.mw_cycle.specs.Decided.{decided}
use Rattle.mw_rel.specs.Case.{IsBefore}
use Rattle.mw_explore.specs.declared.way.Kept.{Kept}
use Rattle.mw_explore.specs.Cases.{AreInOrder, At, Before, Leads, NoneIsToCome, OneIsToCome}
use Rattle.mw_explore.specs.Explorers.{LeadsToNext}
use Rattle.mw_explore.specs.KeptBits.{AreKeptBits, AreLeast, IsKeptBit, IsWayFrom}
use Rattle.mw_explore.specs.Ways.{bits_of, turned, turned_from, turned_last}

-- ---- lists of which one comes before the other

-- their first bits are one, and the rests are so; or the first bit is 0 in the one, and 1 in the other
abbrev Heads : (x y : Decided) → (xs ys : List Decided) → Type 0
Heads x y xs ys = ((x ≡ y) × IsBefore xs ys) ⊎ ((x.value ≡ false) × (y ≡ decided x.kind true))

heads_by : (shared : List Decided) (kind : DecidedKind) (first_rest second_rest : List Decided) (x y : Decided)
    (xs ys : List Decided) → x ∷ xs ≡ shared ++ decided kind false ∷ first_rest
    → y ∷ ys ≡ shared ++ decided kind true ∷ second_rest → Heads x y xs ys
heads_by [] kind first_rest second_rest x y xs ys one two =
    let lower : x ≡ decided kind false = cc in
    let higher : y ≡ decided kind true = cc in
    inr (
      ap (λ (d : Decided). d.value) lower,
      higher ∙ ap (λ (k : DecidedKind). decided k true) (sym (ap (λ (d : Decided). d.kind) lower)),
    )
heads_by (s ∷ shared) kind first_rest second_rest x y xs ys one two =
    let first : x ≡ s = cc in
    let second : y ≡ s = cc in
    inl (
      first ∙ sym second,
      record {
        shared = shared;
        kind = kind;
        first_rest = first_rest;
        second_rest = second_rest;
        first_is = cc;
        second_is = cc;
      },
    )

heads : (x y : Decided) (xs ys : List Decided) → IsBefore (x ∷ xs) (y ∷ ys) → Heads x y xs ys
heads x y xs ys b = heads_by b.shared b.kind b.first_rest b.second_rest x y xs ys b.first_is b.second_is

-- the list of nothing has no item
pub no_item : {A : Type 0} (before : List A) (x : A) (rest : List A) → [] ≡ before ++ x ∷ rest → ⊥
no_item [] x rest is = absurd cc
no_item (y ∷ before) x rest is = absurd cc

-- no list comes before or behind the one of no bit
none_before : (xs : List Decided) → IsBefore xs [] → ⊥
none_before xs b = no_item b.shared (decided b.kind true) b.second_rest b.second_is

none_after : (xs : List Decided) → IsBefore [] xs → ⊥
none_after xs b = no_item b.shared (decided b.kind false) b.first_rest b.first_is

-- ---- feasible prefixes

feasible_front : (IsCase : List Decided → Type 0) (front back : List Decided) → Leads IsCase (front ++ back)
    → Leads IsCase front
feasible_front IsCase front back f =
    record { rest = back ++ f.rest; case = subst IsCase (append_assoc front back f.rest) f.case }

feasible_moved : (IsCase : List Decided → Type 0) (before : List Decided) (d : Decided) (rest : List Decided)
    → Leads IsCase (before ++ d ∷ rest) → Leads IsCase ((before ++ d ∷ []) ++ rest)
feasible_moved IsCase before d rest f =
    subst (Leads IsCase) (sym (append_assoc before (d ∷ []) rest)) f

feasible_next : (IsCase : List Decided → Type 0) (before : List Decided) (d : Decided) (rest : List Decided)
    → Leads IsCase (before ++ d ∷ rest) → Leads IsCase (before ++ d ∷ [])
feasible_next IsCase before d rest f =
    feasible_front IsCase (before ++ d ∷ []) rest (feasible_moved IsCase before d rest f)

-- so is a case
feasible_case : (IsCase : List Decided → Type 0) (bits : List Decided) → IsCase bits → Leads IsCase bits
feasible_case IsCase bits is = record { rest = []; case = subst IsCase (sym (append-nil bits)) is }

-- kept bits are feasible behind feasible ones
pub kept_feasible : (IsCase : List Decided → Type 0) (kept : List Kept) (before : List Decided)
    → Leads IsCase before → AreKeptBits IsCase before kept
    → Leads IsCase (before ++ bits_of kept)
kept_feasible IsCase [] before f are = subst (Leads IsCase) (sym (append-nil before)) f
kept_feasible IsCase (k ∷ kept) before f are =
    subst (Leads IsCase) (append_assoc before (k.bit ∷ []) (bits_of kept))
    (kept_feasible IsCase kept (before ++ k.bit ∷ []) are.0.feasible are.1)

-- ---- the least bits

-- what is feasible behind some bits doesn't come before the least bits there
least_first : (IsCase : List Decided → Type 0) (more : List Kept) (before rest : List Decided)
    → AreLeast IsCase before more → IsBefore rest (bits_of more) → Leads IsCase (before ++ rest) → ⊥
least_first IsCase [] before rest least b f = none_before rest b
least_first IsCase (k ∷ more) before [] least b f = none_after (bits_of (k ∷ more)) b
least_first IsCase (k ∷ more) before (r ∷ rest) least b f = elim (heads r k.bit rest (bits_of more) b) [
  | inl same ↦ least_first IsCase more (before ++ k.bit ∷ []) rest least.1 same.1
      (subst (λ (d : Decided). Leads IsCase ((before ++ d ∷ []) ++ rest)) same.0
      (feasible_moved IsCase before r rest f))
  | inr lower ↦
      let is : r ≡ decided k.bit.kind false = ap₂ decided (sym (ap (λ (d : Decided). d.kind) lower.1)) lower.0 in
      least.0 (ap (λ (d : Decided). d.value) lower.1)
      (subst (λ (d : Decided). Leads IsCase (before ++ d ∷ [])) is
      (feasible_next IsCase before r rest f))
]

-- ---- where no bit can be turned

not_turned : (b : Bool) (xs : List Kept) → (if b then Some xs else None) ≡ None → b ≡ false
not_turned true xs is = absurd cc
not_turned false xs is = refl

pub none_turned : (k : Kept) (o : Option (List Kept)) → turned_from k o ≡ None → (o ≡ None) × (k.other ≡ false)
none_turned k (Some rest) is = absurd cc
none_turned k None is = (refl, not_turned k.other (turned k ∷ []) is)

-- nothing that is feasible comes behind bits of which none can be turned
none_behind : (IsCase : List Decided → Type 0) (kept : List Kept) (before rest : List Decided)
    → AreKeptBits IsCase before kept
    → turned_last kept ≡ None → IsBefore (bits_of kept) rest → Leads IsCase (before ++ rest) → ⊥
none_behind IsCase [] before rest are none b f = none_after rest b
none_behind IsCase (k ∷ kept) before [] are none b f = none_before (bits_of (k ∷ kept)) b
none_behind IsCase (k ∷ kept) before (r ∷ rest) are none b f =
    let no = none_turned k (turned_last kept) none in
    elim (heads k.bit r (bits_of kept) rest b) [
      | inl same ↦ none_behind IsCase kept (before ++ k.bit ∷ []) rest are.1 no.0 same.1
          (subst (λ (d : Decided). Leads IsCase ((before ++ d ∷ []) ++ rest)) (sym same.0)
          (feasible_moved IsCase before r rest f))
      | inr lower ↦ are.0.only no.1 lower.0
          (subst (λ (d : Decided). Leads IsCase (before ++ d ∷ [])) lower.1
          (feasible_next IsCase before r rest f))
    ]

-- ---- the bit that is turned

-- the last bit that can be turned was, and those behind it are dropped
pub record IsTurnedAt (kept now : List Kept) : Type 0 where
  pub front : List Kept
  pub bit : Kept
  pub behind : List Kept
  pub kept_is : kept ≡ front ++ bit ∷ behind
  pub now_is : now ≡ front ++ turned bit ∷ []
  pub can : bit.other ≡ true
  pub none : turned_last behind ≡ None

is_turned : (b : Bool) (xs now : List Kept) → (if b then Some xs else None) ≡ Some now → (b ≡ true) × (now ≡ xs)
is_turned true xs now is = (refl, cc)
is_turned false xs now is = absurd cc

turned_here : (k : Kept) (rest now : List Kept) (o : Option (List Kept)) → turned_last rest ≡ o
    → turned_from k o ≡ Some now → ((later : List Kept) → turned_last rest ≡ Some later → IsTurnedAt rest later)
    → IsTurnedAt (k ∷ rest) now
turned_here k rest now (Some later) was is there =
    let t = there later was in
    let so : now ≡ k ∷ later = cc in
    record {
      front = k ∷ t.front;
      bit = t.bit;
      behind = t.behind;
      kept_is = ap (λ (xs : List Kept). k ∷ xs) t.kept_is;
      now_is = so ∙ ap (λ (xs : List Kept). k ∷ xs) t.now_is;
      can = t.can;
      none = t.none;
    }
turned_here k rest now None was is there =
    let so = is_turned k.other (turned k ∷ []) now is in
    record { front = []; bit = k; behind = rest; kept_is = refl; now_is = so.1; can = so.0; none = was }

pub turned_at : (kept now : List Kept) → turned_last kept ≡ Some now → IsTurnedAt kept now
turned_at [] now is = absurd cc
turned_at (k ∷ rest) now is = turned_here k rest now (turned_last rest) refl is (turned_at rest)

-- the bits are kept bits again
turned_kept : (IsCase : List Decided → Type 0) (front : List Kept) (k : Kept) (behind : List Kept) (before : List Decided)
    → AreKeptBits IsCase before (front ++ k ∷ behind) → k.other ≡ true
    → AreKeptBits IsCase before (front ++ turned k ∷ [])
turned_kept IsCase [] k behind before are can = (
  record {
    feasible = are.0.turns can;
    zero = λ other. absurd cc;
    turns = λ other. absurd cc;
    only = λ other one. absurd cc;
  },
  tt,
)
turned_kept IsCase (f ∷ front) k behind before are can =
    (are.0, turned_kept IsCase front k behind (before ++ f.bit ∷ []) are.1 can)

kept_there : (IsCase : List Decided → Type 0) (front : List Kept) (k : Kept) (behind : List Kept) (before : List Decided)
    → AreKeptBits IsCase before (front ++ k ∷ behind) → IsKeptBit IsCase (before ++ bits_of front) k
kept_there IsCase [] k behind before are =
    subst (λ (xs : List Decided). IsKeptBit IsCase xs k) (sym (append-nil before)) are.0
kept_there IsCase (f ∷ front) k behind before are =
    subst (λ (xs : List Decided). IsKeptBit IsCase xs k) (append_assoc before (f.bit ∷ []) (bits_of front))
    (kept_there IsCase front k behind (before ++ f.bit ∷ []) are.1)

-- turned bits come behind the others
turned_before : (front : List Kept) (k : Kept) (behind more : List Kept) → k.bit.value ≡ false
    → IsBefore (bits_of (front ++ k ∷ behind)) (bits_of (front ++ turned k ∷ more))
turned_before front k behind more low =
    let is : k.bit ≡ decided k.bit.kind false = ap (decided k.bit.kind) low in
    record {
      shared = bits_of front;
      kind = k.bit.kind;
      first_rest = bits_of behind;
      second_rest = bits_of more;
      first_is = map-append (λ (x : Kept). x.bit) front (k ∷ behind)
          ∙ ap (λ (d : Decided). bits_of front ++ d ∷ bits_of behind) is;
      second_is = map-append (λ (x : Kept). x.bit) front (turned k ∷ more);
    }

-- a case comes behind the bits: one that has the turned bit
turned_comes : (IsCase : List Decided → Type 0) (front : List Kept) (k : Kept) (behind : List Kept)
    → AreKeptBits IsCase [] (front ++ k ∷ behind) → k.other ≡ true
    → OneIsToCome IsCase (At (bits_of (front ++ k ∷ behind)))
turned_comes IsCase front k behind are can =
    let is = kept_there IsCase front k behind [] are in
    let f = is.turns can in
    let low : k.bit ≡ decided k.bit.kind false = ap (decided k.bit.kind) (is.zero can) in
    record {
      other = (bits_of front ++ decided k.bit.kind true ∷ []) ++ f.rest;
      feasible = f.case;
      to_come = record {
        shared = bits_of front;
        kind = k.bit.kind;
        first_rest = bits_of behind;
        second_rest = f.rest;
        first_is = map-append (λ (x : Kept). x.bit) front (k ∷ behind)
            ∙ ap (λ (d : Decided). bits_of front ++ d ∷ bits_of behind) low;
        second_is = append_assoc (bits_of front) (decided k.bit.kind true ∷ []) f.rest;
      };
    }

-- a bit isn't 0 and 1
not_both : (d : Decided) (kind : DecidedKind) → d ≡ decided kind true → d.value ≡ false → ⊥
not_both d kind one low = let both : true ≡ false = sym (ap (λ (x : Decided). x.value) one) ∙ low in absurd cc

-- Nothing that is feasible comes between bits, of which one is turned and none behind it can be, and the turned bits
-- with the least ones behind them.
none_between : (IsCase : List Decided → Type 0) (front : List Kept) (k : Kept) (behind more : List Kept)
    (before rest : List Decided) → AreKeptBits IsCase before (front ++ k ∷ behind)
    → turned_last behind ≡ None → AreLeast IsCase (before ++ bits_of (front ++ turned k ∷ [])) more
    → Leads IsCase (before ++ rest) → IsBefore (bits_of (front ++ k ∷ behind)) rest
    → IsBefore rest (bits_of (front ++ turned k ∷ more)) → ⊥
none_between IsCase [] k behind more before [] are none least f last new =
    none_before (bits_of (k ∷ behind)) last
none_between IsCase (g ∷ front) k behind more before [] are none least f last new =
    none_before (bits_of (g ∷ front ++ k ∷ behind)) last
none_between IsCase [] k behind more before (r ∷ rest) are none least f last new =
    let moved = feasible_moved IsCase before r rest f in
    elim (heads k.bit r (bits_of behind) rest last) [
      | inl same ↦ none_behind IsCase behind (before ++ k.bit ∷ []) rest are.1 none same.1
          (subst (λ (d : Decided). Leads IsCase ((before ++ d ∷ []) ++ rest)) (sym same.0) moved)
      | inr later ↦ elim (heads r (decided k.bit.kind true) rest (bits_of more) new) [
        | inl same ↦ least_first IsCase more (before ++ decided k.bit.kind true ∷ []) rest least same.1
            (subst (λ (d : Decided). Leads IsCase ((before ++ d ∷ []) ++ rest)) same.0 moved)
        | inr lower ↦ not_both r k.bit.kind later.1 lower.0
      ]
    ]
none_between IsCase (g ∷ front) k behind more before (r ∷ rest) are none least f last new =
    let moved = feasible_moved IsCase before r rest f in
    elim (heads g.bit r (bits_of (front ++ k ∷ behind)) rest last) [
      | inl same ↦ elim (heads r g.bit rest (bits_of (front ++ turned k ∷ more)) new) [
        | inl also ↦ none_between IsCase front k behind more (before ++ g.bit ∷ []) rest are.1 none
            (subst (λ (xs : List Decided). AreLeast IsCase xs more)
            (sym (append_assoc before (g.bit ∷ []) (bits_of (front ++ turned k ∷ [])))) least)
            (subst (λ (d : Decided). Leads IsCase ((before ++ d ∷ []) ++ rest)) (sym same.0) moved)
            same.1 also.1
        | inr lower ↦ not_both g.bit r.kind lower.1 (ap (λ (d : Decided). d.value) same.0 ∙ lower.0)
      ]
      | inr later ↦ elim (heads r g.bit rest (bits_of (front ++ turned k ∷ more)) new) [
        | inl also ↦ not_both r g.bit.kind later.1 (ap (λ (d : Decided). d.value) also.0 ∙ later.0)
        | inr lower ↦ not_both r g.bit.kind later.1 lower.0
      ]
    ]

-- ---- the next case

-- of two different cases the first comes before the other, where that doesn't come before it
comes_first : (IsCase : List Decided → Type 0) (bits other : List Decided) → AreInOrder IsCase → IsCase bits
    → IsCase other → other ≢ bits → (IsBefore other bits → ⊥) → IsBefore bits other
comes_first IsCase bits other ordered one two differ never =
    elim (ordered bits other one two (λ same. differ (sym same))) [
      | inl first ↦ first
      | inr second ↦ absurd (never second)
    ]

-- no case comes before the bits of a course that began with none
none_at_first : (IsCase : List Decided → Type 0) (way : List Kept) (other : List Decided) → IsWayFrom IsCase [] way
    → IsCase other → ¬ IsBefore other (bits_of way)
none_at_first IsCase way other bits case before =
    least_first IsCase bits.more [] other bits.least
    (subst (IsBefore other) (ap (λ (xs : List Kept). bits_of xs) bits.way_is) before) (feasible_case IsCase other case)

-- nothing kept leads to the first of all
pub leads_to_first : (IsCase : List Decided → Type 0) → AreInOrder IsCase → Leads IsCase []
    → LeadsToNext IsCase Before []
leads_to_first IsCase ordered some = record {
  are_kept = tt;
  some = record { other = some.rest; feasible = some.case; to_come = tt };
  next = λ way bits whole. record {
    feasible = whole;
    to_come = tt;
    first = λ other case come differ. comes_first IsCase (bits_of way) other ordered whole case differ
        (none_at_first IsCase way other bits case);
  };
  none_before = λ way bits other case before come. none_at_first IsCase way other bits case before;
}

-- the bits of a course that began with those turned, from the first on
run_on : (IsCase : List Decided → Type 0) (front now : List Kept) (bit : Kept) (way : List Kept)
    → now ≡ front ++ turned bit ∷ [] → (bits : IsWayFrom IsCase now way) → way ≡ front ++ turned bit ∷ bits.more
run_on IsCase front now bit way now_is bits =
    bits.way_is ∙ ap (λ (xs : List Kept). xs ++ bits.more) now_is ∙ append_assoc front (turned bit ∷ []) bits.more

-- no case that is to come behind the last one comes before the bits of a course that began with those turned
none_at_turned : (IsCase : List Decided → Type 0) (kept now way : List Kept) (other : List Decided)
    → AreKeptBits IsCase [] kept → turned_last kept ≡ Some now → IsWayFrom IsCase now way
    → IsCase other → IsBefore (bits_of kept) other → ¬ IsBefore other (bits_of way)
none_at_turned IsCase kept now way other are turns bits case come before =
    let t = turned_at kept now turns in
    none_between IsCase t.front t.bit t.behind bits.more [] other
    (subst (AreKeptBits IsCase []) t.kept_is are) t.none
    (subst (λ (xs : List Kept). AreLeast IsCase (bits_of xs) bits.more) t.now_is bits.least)
    (feasible_case IsCase other case)
    (subst (λ (xs : List Kept). IsBefore (bits_of xs) other) t.kept_is come)
    (subst (IsBefore other)
    (ap (λ (xs : List Kept). bits_of xs) (run_on IsCase t.front now t.bit way t.now_is bits)) before)

-- turned bits lead to the next one behind the last
pub leads_behind : (IsCase : List Decided → Type 0) (kept now : List Kept) → AreInOrder IsCase
    → AreKeptBits IsCase [] kept → turned_last kept ≡ Some now → LeadsToNext IsCase (At (bits_of kept)) now
leads_behind IsCase kept now ordered keeps turns =
    let t = turned_at kept now turns in
    let are : AreKeptBits IsCase [] (t.front ++ t.bit ∷ t.behind) = subst (AreKeptBits IsCase []) t.kept_is keeps in
    let last : bits_of kept ≡ bits_of (t.front ++ t.bit ∷ t.behind) = ap (λ (xs : List Kept). bits_of xs) t.kept_is in
    record {
      are_kept = subst (AreKeptBits IsCase []) (sym t.now_is)
          (turned_kept IsCase t.front t.bit t.behind [] are t.can);
      some = subst (λ (xs : List Decided). OneIsToCome IsCase (At xs)) (sym last)
          (turned_comes IsCase t.front t.bit t.behind are t.can);
      next = λ way bits whole.
          let met : bits_of way ≡ bits_of (t.front ++ turned t.bit ∷ bits.more) =
          ap (λ (xs : List Kept). bits_of xs) (run_on IsCase t.front now t.bit way t.now_is bits) in
          record {
            feasible = whole;
            to_come = subst (λ (xs : List Decided). IsBefore xs (bits_of way)) (sym last)
                (subst (IsBefore (bits_of (t.front ++ t.bit ∷ t.behind))) (sym met)
                (turned_before t.front t.bit t.behind bits.more
                ((kept_there IsCase t.front t.bit t.behind [] are).zero t.can)));
            first = λ other case come differ. comes_first IsCase (bits_of way) other ordered whole case differ
                (none_at_turned IsCase kept now way other keeps turns bits case come);
          };
      none_before = λ way bits other case before come.
          none_at_turned IsCase kept now way other keeps turns bits case come before;
    }

-- none is to come where none can be turned
pub none_left : (IsCase : List Decided → Type 0) (kept : List Kept) → AreKeptBits IsCase [] kept
    → turned_last kept ≡ None → NoneIsToCome IsCase (At (bits_of kept))
none_left IsCase kept keeps none = λ other case come.
    none_behind IsCase kept [] other keeps none come (feasible_case IsCase other case)
