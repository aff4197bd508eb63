-- Lists of decided bits that are one, or part at a bit of one kind.
use Rattle.std.proofs.Common.{◌≡◌, ◌≢◌, ◌⊎◌, inl, inr, List, [], ◌∷◌, ◌++◌, Bool, true, false, not, refl, sym, ap, ap₂}
use Rattle.std.proofs.Common.{◌∙◌, subst}
use Rattle.std.proofs.lemmas.List.{append_assoc}
use Rattle.mw_term.specs.declared.decided.DecidedKind.{DecidedKind}
use Rattle.mw_term.specs.declared.decided.Decided.{Decided}
use Rattle.mw_cycle.specs.Decided.{decided}
use Rattle.mw_rel.specs.Case.{IsBefore, IsProperPrefix}
use Rattle.mw_rel.specs.SteadyCaseLaws.{BeforeIsAnOrder}

-- the first place at which two lists differ has a bit of one kind
pub record ArePart (xs ys : List Decided) : Type 0 where
  pub shared : List Decided
  pub kind : DecidedKind
  pub value : Bool
  pub xs_rest : List Decided
  pub ys_rest : List Decided
  pub xs_are : xs ≡ shared ++ decided kind value ∷ xs_rest
  pub ys_are : ys ≡ shared ++ decided kind (not value) ∷ ys_rest

-- they are one, or there is such a place
abbrev pub Meet : List Decided → List Decided → Type 0
Meet xs ys = (xs ≡ ys) ⊎ ArePart xs ys

-- ---- what is put together

pub part_on : (xs ys more others : List Decided) → ArePart xs ys → ArePart (xs ++ more) (ys ++ others)
part_on xs ys more others p = record {
  shared = p.shared;
  kind = p.kind;
  value = p.value;
  xs_rest = p.xs_rest ++ more;
  ys_rest = p.ys_rest ++ others;
  xs_are = ap (λ all. all ++ more) p.xs_are ∙ append_assoc p.shared (decided p.kind p.value ∷ p.xs_rest) more;
  ys_are = ap (λ all. all ++ others) p.ys_are ∙ append_assoc p.shared (decided p.kind (not p.value) ∷ p.ys_rest) others;
}

pub part_behind : (front xs ys : List Decided) → ArePart xs ys → ArePart (front ++ xs) (front ++ ys)
part_behind front xs ys p = record {
  shared = front ++ p.shared;
  kind = p.kind;
  value = p.value;
  xs_rest = p.xs_rest;
  ys_rest = p.ys_rest;
  xs_are = ap (λ all. front ++ all) p.xs_are ∙ sym (append_assoc front p.shared (decided p.kind p.value ∷ p.xs_rest));
  ys_are = ap (λ all. front ++ all) p.ys_are
      ∙ sym (append_assoc front p.shared (decided p.kind (not p.value) ∷ p.ys_rest));
}

pub meet_on : (xs ys more others : List Decided) → Meet xs ys → Meet more others → Meet (xs ++ more) (ys ++ others)
meet_on xs ys more others (inr p) any = inr (part_on xs ys more others p)
meet_on xs ys more others (inl same) (inl also) = inl (ap₂ (λ front back. front ++ back) same also)
meet_on xs ys more others (inl same) (inr p) =
    inr (subst (λ front. ArePart (xs ++ more) (front ++ others)) same (part_behind xs more others p))

-- two lists part at their first bits
pub part_here : (kind : DecidedKind) (value : Bool) (xs ys : List Decided)
    → ArePart (decided kind value ∷ xs) (decided kind (not value) ∷ ys)
part_here kind value xs ys = record {
  shared = [];
  kind = kind;
  value = value;
  xs_rest = xs;
  ys_rest = ys;
  xs_are = refl;
  ys_are = refl;
}

-- a bit of one kind before each of two
pub meet_bit : (kind : DecidedKind) (a b : Bool) (xs ys : List Decided) → Meet xs ys
    → Meet (decided kind a ∷ xs) (decided kind b ∷ ys)
meet_bit kind true true xs ys rest = meet_on (decided kind true ∷ []) (decided kind true ∷ []) xs ys (inl refl) rest
meet_bit kind false false xs ys rest = meet_on (decided kind false ∷ []) (decided kind false ∷ []) xs ys (inl refl) rest
meet_bit kind true false xs ys rest = inr (part_here kind true xs ys)
meet_bit kind false true xs ys rest = inr (part_here kind false xs ys)

-- ---- what follows where two lists part

turned : (b : Bool) → b ≢ not b
turned true is = absurd cc
turned false is = absurd cc

-- they can't begin with one list up to the place
never_at : {Q : Type 0} (shared : List Decided) (kind : DecidedKind) (v : Bool) (xs ys : List Decided)
    → shared ++ decided kind v ∷ xs ≡ shared ++ decided kind (not v) ∷ ys → Q
never_at [] kind v xs ys same =
    let bit : decided kind v ≡ decided kind (not v) = cc in
    absurd (turned v (ap (λ (d : Decided). d.value) bit))
never_at (d ∷ shared) kind v xs ys same =
    let rest : shared ++ decided kind v ∷ xs ≡ shared ++ decided kind (not v) ∷ ys = cc in
    never_at shared kind v xs ys rest

-- they aren't one
pub part_apart : {Q : Type 0} (xs ys : List Decided) → ArePart xs ys → xs ≡ ys → Q
part_apart xs ys p same = never_at p.shared p.kind p.value p.xs_rest p.ys_rest (sym p.xs_are ∙ same ∙ p.ys_are)

-- and neither goes on the other
pub never_on : {Q : Type 0} (xs ys more : List Decided) → ArePart xs ys → ys ≡ xs ++ more → Q
never_on xs ys more p is =
    never_at p.shared p.kind p.value (p.xs_rest ++ more) p.ys_rest
    (sym (append_assoc p.shared (decided p.kind p.value ∷ p.xs_rest) more)
    ∙ ap (λ all. all ++ more) (sym p.xs_are) ∙ sym is ∙ p.ys_are)

-- a list isn't longer than itself
longer : {Q : Type 0} (xs : List Decided) (next : Decided) (rest : List Decided) → xs ≡ xs ++ next ∷ rest → Q
longer [] next rest is = cc
longer (x ∷ xs) next rest is = (let behind : xs ≡ xs ++ next ∷ rest = cc in longer xs next rest behind)

pub no_prefix : {Q : Type 0} (xs ys : List Decided) → Meet xs ys → IsProperPrefix xs ys → Q
no_prefix xs ys (inl same) proper = longer xs proper.next proper.rest (same ∙ proper.second_is)
no_prefix xs ys (inr p) proper = never_on xs ys (proper.next ∷ proper.rest) p proper.second_is

-- behind one list they go on with bits of one kind
same_kind : (bits shared : List Decided) (x y : Decided) (kind : DecidedKind) (v : Bool)
    (xs ys xs_rest ys_rest : List Decided)
    → bits ++ x ∷ xs ≡ shared ++ decided kind v ∷ xs_rest → bits ++ y ∷ ys ≡ shared ++ decided kind (not v) ∷ ys_rest
    → x.kind ≡ y.kind
same_kind [] [] x y kind v xs ys xs_rest ys_rest one two =
    let first : x ≡ decided kind v = cc in
    let second : y ≡ decided kind (not v) = cc in
    ap (λ (d : Decided). d.kind) first ∙ sym (ap (λ (d : Decided). d.kind) second)
same_kind [] (d ∷ shared) x y kind v xs ys xs_rest ys_rest one two =
    let both : x ≡ y = cc in
    ap (λ (d : Decided). d.kind) both
same_kind (d ∷ bits) [] x y kind v xs ys xs_rest ys_rest one two =
    let first : d ≡ decided kind v = cc in
    let second : d ≡ decided kind (not v) = cc in
    absurd (turned v (ap (λ (e : Decided). e.value) (sym first ∙ second)))
same_kind (d ∷ bits) (e ∷ shared) x y kind v xs ys xs_rest ys_rest one two =
    let first : bits ++ x ∷ xs ≡ shared ++ decided kind v ∷ xs_rest = cc in
    let second : bits ++ y ∷ ys ≡ shared ++ decided kind (not v) ∷ ys_rest = cc in
    same_kind bits shared x y kind v xs ys xs_rest ys_rest first second

heads : (bits : List Decided) (x y : Decided) (xs ys : List Decided) → bits ++ x ∷ xs ≡ bits ++ y ∷ ys → x ≡ y
heads [] x y xs ys same = cc
heads (d ∷ bits) x y xs ys same =
    let rest : bits ++ x ∷ xs ≡ bits ++ y ∷ ys = cc in heads bits x y xs ys rest

pub next_kind : (bits : List Decided) (x y : Decided) (xs ys : List Decided)
    → Meet (bits ++ x ∷ xs) (bits ++ y ∷ ys) → x.kind ≡ y.kind
next_kind bits x y xs ys (inl same) = ap (λ (d : Decided). d.kind) (heads bits x y xs ys same)
next_kind bits x y xs ys (inr p) =
    same_kind bits p.shared x y p.kind p.value xs ys p.xs_rest p.ys_rest p.xs_are p.ys_are

-- ---- the order

before_by : (value : Bool) (xs ys shared : List Decided) (kind : DecidedKind) (xs_rest ys_rest : List Decided)
    → xs ≡ shared ++ decided kind value ∷ xs_rest → ys ≡ shared ++ decided kind (not value) ∷ ys_rest
    → IsBefore xs ys ⊎ IsBefore ys xs
before_by false xs ys shared kind xs_rest ys_rest one two = inl (record {
  shared = shared;
  kind = kind;
  first_rest = xs_rest;
  second_rest = ys_rest;
  first_is = one;
  second_is = two;
})
before_by true xs ys shared kind xs_rest ys_rest one two = inr (record {
  shared = shared;
  kind = kind;
  first_rest = ys_rest;
  second_rest = xs_rest;
  first_is = two;
  second_is = one;
})

pub one_before : (xs ys : List Decided) → Meet xs ys → xs ≢ ys → IsBefore xs ys ⊎ IsBefore ys xs
one_before xs ys (inl same) other = absurd (other same)
one_before xs ys (inr p) other = before_by p.value xs ys p.shared p.kind p.xs_rest p.ys_rest p.xs_are p.ys_are

-- two lists that come before one another, by what is before each of their places
carried : (s t : List Decided) (k j : DecidedKind) (xs ys zs ws : List Decided)
    → s ++ decided k true ∷ ys ≡ t ++ decided j false ∷ zs
    → IsBefore (s ++ decided k false ∷ xs) (t ++ decided j true ∷ ws)
carried [] [] k j xs ys zs ws same = (
    let bit : decided k true ≡ decided j false = cc in
    let values : true ≡ false = ap (λ (d : Decided). d.value) bit in
    absurd cc)
carried [] (d ∷ t) k j xs ys zs ws same = record {
  shared = [];
  kind = k;
  first_rest = xs;
  second_rest = t ++ decided j true ∷ ws;
  first_is = refl;
  second_is = (let head : d ≡ decided k true = cc in ap (λ e. e ∷ (t ++ decided j true ∷ ws)) head);
}
carried (d ∷ s) [] k j xs ys zs ws same = record {
  shared = [];
  kind = j;
  first_rest = s ++ decided k false ∷ xs;
  second_rest = ws;
  first_is = (let head : d ≡ decided j false = cc in ap (λ e. e ∷ (s ++ decided k false ∷ xs)) head);
  second_is = refl;
}
carried (d ∷ s) (e ∷ t) k j xs ys zs ws same =
    let head : d ≡ e = cc in
    let behind : s ++ decided k true ∷ ys ≡ t ++ decided j false ∷ zs = cc in
    let rest = carried s t k j xs ys zs ws behind in
    record {
      shared = d ∷ rest.shared;
      kind = rest.kind;
      first_rest = rest.first_rest;
      second_rest = rest.second_rest;
      first_is = ap (λ all. d ∷ all) rest.first_is;
      second_is = ap₂ (λ (x : Decided) all. x ∷ all) (sym head) rest.second_is;
    }

before_on : (first second third : List Decided) → IsBefore first second → IsBefore second third → IsBefore first third
before_on first second third one two =
    subst (λ xs. IsBefore xs third) (sym one.first_is)
    (subst (λ xs. IsBefore (one.shared ++ decided one.kind false ∷ one.first_rest) xs) (sym two.second_is)
    (carried one.shared two.shared one.kind two.kind one.first_rest one.second_rest two.first_rest two.second_rest
    (sym one.second_is ∙ two.first_is)))

not_before_itself : {Q : Type 0} (xs : List Decided) → IsBefore xs xs → Q
not_before_itself xs before =
    never_at before.shared before.kind false before.first_rest before.second_rest
    (sym before.first_is ∙ before.second_is)

pub before_is_an_order : BeforeIsAnOrder
before_is_an_order first second third before =
    (λ back. not_before_itself first (before_on first second first before back), before_on first second third before)
