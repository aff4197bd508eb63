-- Joint cofactors of the functions of three nodes.
use Rattle.std.proofs.Common.{◌≡◌, ◌⊎◌, inl, inr, ℕ, zero, suc, ◌<◌, ◌≤◌, List, [], ◌∷◌, length, get_or, map, arith}
use Rattle.std.proofs.Common.{refl, ap}
use Rattle.std.proofs.Common.{◌∙◌, sym, subst, eqb}
use Rattle.std.specs.Prelude.{Bool, true, false, ◌||◌, slice_get, Some}
use Rattle.std.specs.List.{IsDistinct, AllByRecursion, AllPairs, list_any}
use Rattle.std.proofs.lemmas.Bool.{false≢true}
use Rattle.std.proofs.lemmas.Bool.Decides.{nat_tests}
use Rattle.std.proofs.lemmas.List.{length-map}
use Rattle.std.proofs.lemmas.Map.Steps.{length-le_from_distinct_below}
use Rattle.std.proofs.lemmas.Option.{same_Some, slice_get_within}
use Rattle.mw_term.specs.Assigned.{Given}
use Rattle.mw_term.specs.Cofactors.{Variable, variable, value_of, is_before, with_fixed, left_of, AreSame, IsCofactor}
use Rattle.mw_term.specs.Cofactors.{HasAtMostCofactors, HasMoreCofactors}
use Rattle.mw_term.specs.Functions as functions
use Rattle.mw_dd.specs.declared.nodes.Node.{Node}
use Rattle.mw_dd.specs.declared.nodes.Triple.{Triple}
use Rattle.mw_dd.specs.Nodes.{value_at, IsDd, IsFrom, IsReduced, after}
use Rattle.mw_dd.specs.Steps.{Grows, AreDds, AreFrom, IsTop, IsSide, meaning, ends, IsEnd, IsLeft, IsAmong, AreAmong}
use Rattle.mw_dd.proofs.Order.{not_before_first}
use Rattle.mw_dd.proofs.Values.{value-zero, value-one}
use Rattle.mw_dd.proofs.From.{from-trans, same_from, same_fixed, fixed_later, fixed_before, only, fixed_only}
use Rattle.mw_dd.proofs.Unique.{canonical}

-- ---- triples of functions that are one

pub same_back : (t u : functions.Triple) → AreSame t u → AreSame u t
same_back t u is = record {
  f = λ given. sym (is.f given);
  g = λ given. sym (is.g given);
  h = λ given. sym (is.h given);
}

same_then : (t u w : functions.Triple) → AreSame t u → AreSame u w → AreSame t w
same_then t u w first second = record {
  f = λ given. first.f given ∙ second.f given;
  g = λ given. first.g given ∙ second.g given;
  h = λ given. first.h given ∙ second.h given;
}

left-same : (t u : functions.Triple) (place : Variable) (fixed : Given) → AreSame t u
    → AreSame (left_of t place fixed) (left_of u place fixed)
left-same t u place fixed is = record {
  f = λ given. is.f (with_fixed place fixed given);
  g = λ given. is.g (with_fixed place fixed given);
  h = λ given. is.h (with_fixed place fixed given);
}

-- triples that are one have the same joint cofactors
pub cofactor-same : (t u w : functions.Triple) → AreSame t u → IsCofactor t w → IsCofactor u w
cofactor-same t u w same is = record {
  place = is.place;
  fixed = is.fixed;
  left = same_then w _ _ is.left (left-same t u is.place is.fixed same);
  counted = is.counted;
}

more-each : (t u : functions.Triple) (n : ℕ) → AreSame t u → HasMoreCofactors t n → HasMoreCofactors u n
more-each t u n same more = (
  more.0,
  more.1,
  record { each = λ i d below. cofactor-same t u _ same (more.2.each i d below); different = more.2.different },
)

pub more-same : (t u : functions.Triple) (n : ℕ) → AreSame t u → HasMoreCofactors t n → HasMoreCofactors u n
more-same t u n same more = more-each t u n same more

-- nodes keep their meaning
pub meaning-grows : (old new : List Node) (t : Triple) → Grows old new → AreDds old t
    → AreSame (meaning new t) (meaning old t)
meaning-grows old new t grows are = record {
  f = λ given. grows.same given t.f are.f;
  g = λ given. grows.same given t.g are.g;
  h = λ given. grows.same given t.h are.h;
}

pub dds-grows : (old new : List Node) (t : Triple) → Grows old new → AreDds old t → AreDds new t
dds-grows old new t grows are = record {
  f = omega (arith, grows.more, are.f);
  g = omega (arith, grows.more, are.g);
  h = omega (arith, grows.more, are.h);
}

-- some triples are among others
abbrev pub Stay : (triples more : List Triple) → Type 0
Stay triples more = (i : ℕ) (t : Triple) → slice_get triples i ≡ Some t → slice_get more i ≡ Some t

among-grows : (old new : List Node) (triples more : List Triple) (u : functions.Triple) → Grows old new
    → Stay triples more → IsAmong old triples u → IsAmong new more u
among-grows old new triples more u grows stay is = (
  is.0,
  is.1,
  stay is.0 is.1 is.2,
  dds-grows old new is.1 grows is.3,
  same_then u (meaning old is.1) (meaning new is.1) is.4
      (same_back (meaning new is.1) (meaning old is.1) (meaning-grows old new is.1 grows is.3)),
)

pub are_among-grows : (old new : List Node) (triples more : List Triple) (t : Triple) → Grows old new
    → Stay triples more → AreDds old t → AreAmong old triples t → AreAmong new more t
are_among-grows old new triples more t grows stay are among u is =
    among-grows old new triples more u grows stay
    (among u (cofactor-same (meaning new t) (meaning old t) u (meaning-grows old new t grows are) is))

-- ---- terminal cases

pub end_among : (nodes : List Node) (triples : List Triple) (t : Triple) (r : ℕ) → IsEnd t r → AreAmong nodes triples t
end_among nodes triples t r (inl first) u is =
    absurd (is.counted.choice false (λ given. is.left.f given
    ∙ ap (value_at (with_fixed is.place is.fixed given) nodes) first.0 ∙ value-zero _ nodes))
end_among nodes triples t r (inr (inl second)) u is =
    absurd (is.counted.choice true (λ given. is.left.f given
    ∙ ap (value_at (with_fixed is.place is.fixed given) nodes) second.0 ∙ value-one _ nodes))
end_among nodes triples t r (inr (inr third)) u is =
    absurd (is.counted.branches (λ given. is.left.g given
    ∙ ap (value_at (with_fixed is.place is.fixed given) nodes) third.0 ∙ sym (is.left.h given)))

-- ---- halves

-- the first variable of a triple isn't before the place that it is from
top_place : (nodes : List Node) (t : Triple) (v place : Variable) → IsTop nodes t v → AreFrom nodes place t
    → is_before v place ≡ false
top_place nodes t v place top from = elim top.one [
  | inl one ↦ subst (λ (u : Variable). is_before u place ≡ false) one.4 (from.f one.0 one.1 one.2 one.3)
  | inr other ↦ elim other [
    | inl one ↦ subst (λ (u : Variable). is_before u place ≡ false) one.4 (from.g one.0 one.1 one.2 one.3)
    | inr one ↦ subst (λ (u : Variable). is_before u place ≡ false) one.4 (from.h one.0 one.1 one.2 one.3)
  ]
]

pub top-before : (nodes : List Node) (t : Triple) (v place : Variable) → IsTop nodes t v → AreFrom nodes place t
    → is_before v place ≡ false
top-before = top_place

module _ (nodes : List Node) (r : IsReduced nodes) (t : Triple) (there : AreDds nodes t) (v : Variable)
    (top : IsTop nodes t v) where
  -- what is left where no variable of the triple is fixed
  left_whole : (u : functions.Triple) (place : Variable) (fixed : Given) → is_before v place ≡ false
      → AreSame u (left_of (meaning nodes t) place fixed) → AreSame u (meaning nodes t)
  left_whole u place fixed later left = record {
    f = λ given. left.f given
        ∙ same_fixed nodes r place fixed given t.f there.f (from-trans nodes v place t.f top.from.f later);
    g = λ given. left.g given
        ∙ same_fixed nodes r place fixed given t.g there.g (from-trans nodes v place t.g top.from.g later);
    h = λ given. left.h given
        ∙ same_fixed nodes r place fixed given t.h there.h (from-trans nodes v place t.h top.from.h later);
  }

  -- and where the first one is fixed
  left_side : (u : functions.Triple) (place : Variable) (fixed : Given) (b : Bool) (s : Triple) → IsSide nodes t v b s
      → is_before v place ≡ true → value_of v fixed ≡ b → AreSame u (left_of (meaning nodes t) place fixed)
      → AreSame u (left_of (meaning nodes s) place fixed)
  left_side u place fixed b s is before value left = record {
    f = λ given.
        left.f given ∙ sym (is.f (with_fixed place fixed given) (fixed_before place v fixed given before ∙ value));
    g = λ given.
        left.g given ∙ sym (is.g (with_fixed place fixed given) (fixed_before place v fixed given before ∙ value));
    h = λ given.
        left.h given ∙ sym (is.h (with_fixed place fixed given) (fixed_before place v fixed given before ∙ value));
  }

  side_cofactor : (u : functions.Triple) (b : Bool) (s : Triple) → IsSide nodes t v b s
      → (is : IsCofactor (meaning nodes t) u) → is_before v is.place ≡ true → value_of v is.fixed ≡ b
      → IsCofactor (meaning nodes s) u
  side_cofactor u b s side is before value = record {
    place = is.place;
    fixed = is.fixed;
    left = left_side u is.place is.fixed b s side before value is.left;
    counted = is.counted;
  }

  cases_at : (lo hi : Triple) → IsSide nodes t v false lo → IsSide nodes t v true hi → (u : functions.Triple)
      → (is : IsCofactor (meaning nodes t) u) → (before value : Bool) → is_before v is.place ≡ before
      → value_of v is.fixed ≡ value
      → AreSame u (meaning nodes t) ⊎ (IsCofactor (meaning nodes lo) u ⊎ IsCofactor (meaning nodes hi) u)
  cases_at lo hi low high u is false value place fixed = inl (left_whole u is.place is.fixed place is.left)
  cases_at lo hi low high u is true false place fixed = inr (inl (side_cofactor u false lo low is place fixed))
  cases_at lo hi low high u is true true place fixed = inr (inr (side_cofactor u true hi high is place fixed))

  -- a joint cofactor of a triple is its meaning, or one of its halves
  pub cofactor_cases : (lo hi : Triple) → IsSide nodes t v false lo → IsSide nodes t v true hi → (u : functions.Triple)
      → IsCofactor (meaning nodes t) u
      → AreSame u (meaning nodes t) ⊎ (IsCofactor (meaning nodes lo) u ⊎ IsCofactor (meaning nodes hi) u)
  cofactor_cases lo hi low high u is =
      cases_at lo hi low high u is (is_before v is.place) (value_of v is.fixed) refl refl

-- ---- what is left of three nodes

-- fixing at a place and then at a later one is fixing at the later one
fixed_twice : (place later u : Variable) (fixed more given : Given) → (b c : Bool) → is_before u place ≡ b
    → is_before u later ≡ c → (b ≡ true → c ≡ true)
    → value_of u (with_fixed place fixed (with_fixed later more given))
    ≡ value_of u (with_fixed later (with_fixed place fixed more) given)
fixed_twice place later u fixed more given true true h g within =
    fixed_before place u fixed _ h ∙ sym (fixed_before place u fixed more h)
    ∙ sym (fixed_before later u (with_fixed place fixed more) given g)
fixed_twice place later u fixed more given true false h g within = absurd (false≢true (within refl))
fixed_twice place later u fixed more given false true h g within =
    fixed_later place u fixed _ h ∙ fixed_before later u more given g ∙ sym (fixed_later place u fixed more h)
    ∙ sym (fixed_before later u (with_fixed place fixed more) given g)
fixed_twice place later u fixed more given false false h g within =
    fixed_later place u fixed _ h ∙ fixed_later later u more given g
    ∙ sym (fixed_later later u (with_fixed place fixed more) given g)

before_within : (place v u : Variable) → is_before v place ≡ false → is_before u place ≡ true
    → is_before u (after v) ≡ true
before_within place v u later before = grind (arith, nat_tests)

module _ (nodes : List Node) (r : IsReduced nodes) (whole : Triple) (all : AreDds nodes whole) where
  value_twice : (x : ℕ) → IsDd nodes x → (place v : Variable) (fixed more given : Given) → is_before v place ≡ false
      → value_at (with_fixed place fixed (with_fixed (after v) more given)) nodes x
      ≡ value_at (with_fixed (after v) (with_fixed place fixed more) given) nodes x
  value_twice x there place v fixed more given later =
      same_from nodes r (variable 0 0) _ _
      (λ u h. fixed_twice place (after v) u fixed more given (is_before u place) (is_before u (after v)) refl refl
      (λ before. before_within place v u later before))
      x there (λ k n e at. not_before_first n.variable)

  -- the half of what is left is left
  pub left-side : (t s : Triple) (v : Variable) (b : Bool) → IsTop nodes t v → IsSide nodes t v b s
      → IsLeft nodes whole t → IsLeft nodes whole s
  left-side t s v b top side is =
      let more = only v b in
      let later = top_place nodes t v is.place top is.from in
      record {
        place = after v;
        fixed = with_fixed is.place is.fixed more;
        left = record {
          f = λ given. sym (same_fixed nodes r (after v) more given s.f side.there.f side.from.f)
              ∙ side.f (with_fixed (after v) more given) (fixed_only v b given)
              ∙ is.left.f (with_fixed (after v) more given)
              ∙ value_twice whole.f all.f is.place v is.fixed more given later;
          g = λ given. sym (same_fixed nodes r (after v) more given s.g side.there.g side.from.g)
              ∙ side.g (with_fixed (after v) more given) (fixed_only v b given)
              ∙ is.left.g (with_fixed (after v) more given)
              ∙ value_twice whole.g all.g is.place v is.fixed more given later;
          h = λ given. sym (same_fixed nodes r (after v) more given s.h side.there.h side.from.h)
              ∙ side.h (with_fixed (after v) more given) (fixed_only v b given)
              ∙ is.left.h (with_fixed (after v) more given)
              ∙ value_twice whole.h all.h is.place v is.fixed more given later;
        };
        from = side.from;
      }

  -- all is left where nothing is fixed
  pub left_itself : IsLeft nodes whole whole
  left_itself =
      let none : (x : ℕ) → IsFrom nodes (variable 0 0) x = λ x k n e at. not_before_first n.variable in
      let nothing : Given = λ word. 0 in
      record {
        place = variable 0 0;
        fixed = nothing;
        left = record {
          f = λ given. sym (same_fixed nodes r (variable 0 0) nothing given whole.f all.f (none whole.f));
          g = λ given. sym (same_fixed nodes r (variable 0 0) nothing given whole.g all.g (none whole.g));
          h = λ given. sym (same_fixed nodes r (variable 0 0) nothing given whole.h all.h (none whole.h));
        };
        from = record { f = none whole.f; g = none whole.g; h = none whole.h };
      }

  inner_of : (t : Triple) → ends t ≡ false → 2 ≤ t.f
  inner_of t h = grind (arith, nat_tests)

  apart_of : (t : Triple) → ends t ≡ false → t.g ≡ t.h → ⊥
  apart_of t h same = absurd (false≢true (sym h ∙ grind (arith, nat_tests)))

  counted_choice : (t : Triple) → AreDds nodes t → ends t ≡ false → (b : Bool)
      → ((given : Given) → value_at given nodes t.f ≡ b) → ⊥
  counted_choice t there counts true agree =
      let same : t.f ≡ 1 =
      canonical nodes r t.f 1 there.f (omega arith) (λ given. agree given ∙ sym (value-one given nodes)) in
      omega (arith, same, inner_of t counts)
  counted_choice t there counts false agree =
      let same : t.f ≡ 0 =
      canonical nodes r t.f 0 there.f (omega arith) (λ given. agree given ∙ sym (value-zero given nodes)) in
      omega (arith, same, inner_of t counts)

  -- where something is left to choose, what is left is a joint cofactor
  pub left_counts : (t : Triple) → AreDds nodes t → ends t ≡ false → IsLeft nodes whole t
      → IsCofactor (meaning nodes whole) (meaning nodes t)
  left_counts t there counts is = record {
    place = is.place;
    fixed = is.fixed;
    left = is.left;
    counted = record {
      choice = counted_choice t there counts;
      branches = λ agree. apart_of t counts (canonical nodes r t.g t.h there.g there.h agree);
    };
  }

  same_triple : (t u : Triple) → t.f ≡ u.f → t.g ≡ u.g → t.h ≡ u.h → t ≡ u
  same_triple t u f g h =
      let made : ℕ × ℕ × ℕ → Triple = λ p. record { f = p.0; g = p.1; h = p.2 } in
      let parts : ◌≡◌ {A = ℕ × ℕ × ℕ} (t.f, t.g, t.h) (u.f, u.g, u.h) = rw (f, g, h) refl in
      ap made parts

  one_triple : (t u : Triple) → AreDds nodes t → AreDds nodes u → AreSame (meaning nodes t) (meaning nodes u) → t ≡ u
  one_triple t u a b same =
      same_triple t u (canonical nodes r t.f u.f a.f b.f same.f) (canonical nodes r t.g u.g a.g b.g same.g)
      (canonical nodes r t.h u.h a.h b.h same.h)

  -- ---- more than so many

  -- different triples that are left and count, at their places
  pub record AreCounted (triples : List Triple) : Type 0 where
    pub there : (i : ℕ) (t : Triple) → slice_get triples i ≡ Some t → AreDds nodes t
    pub counted : (i : ℕ) (t : Triple) → slice_get triples i ≡ Some t → ends t ≡ false
    pub left : (i : ℕ) (t : Triple) → slice_get triples i ≡ Some t → IsLeft nodes whole t
    pub once : (i j : ℕ) (t : Triple) → slice_get triples i ≡ Some t → slice_get triples j ≡ Some t → i ≡ j

  at : (triples : List Triple) (i : ℕ) (d : functions.Triple) → i < length (map (meaning nodes) triples)
      → (t : Triple) × (slice_get triples i ≡ Some t) × (get_or (map (meaning nodes) triples) i d ≡ meaning nodes t)
  at [] i d below = absurd (omega (arith, below))
  at (t ∷ rest) zero d below = (t, refl, refl)
  at (t ∷ rest) (suc i) d below = at rest i d (omega (arith, below))

  pub more_cofactors : (triples : List Triple) (n : ℕ) → AreCounted triples → n < length triples
      → HasMoreCofactors (meaning nodes whole) n
  more_cofactors triples n are many = (
    map (meaning nodes) triples,
    omega (arith, length-map triples (meaning nodes), many),
    record {
      each = λ i d below.
          let found = at triples i d below in
          subst (IsCofactor (meaning nodes whole)) (sym found.2)
          (left_counts found.0 (are.there i found.0 found.1) (are.counted i found.0 found.1)
          (are.left i found.0 found.1));
      different = λ i j d first second same.
          let one = at triples i d (omega (arith, first, second)) in
          let other = at triples j d second in
          let alike = one_triple one.0 other.0 (are.there i one.0 one.1) (are.there j other.0 other.1)
          (subst (λ (u : functions.Triple). AreSame u (meaning nodes other.0)) one.2
          (subst (AreSame (get_or (map (meaning nodes) triples) i d)) other.2 same)) in
          let place = are.once i j other.0 (one.1 ∙ ap Some alike) other.1 in
          omega (arith, place, first);
    },
  )

-- ---- at most so many

-- triples of functions, and a number of each
data Numbered (Has : functions.Triple → ℕ → Type 0) : List functions.Triple → List ℕ → Type 0 where
  none : Numbered Has [] []
  more : (u : functions.Triple) (us : List functions.Triple) (i : ℕ) (is : List ℕ) → Has u i → Numbered Has us is
      → Numbered Has (u ∷ us) (i ∷ is)

module _ (Has : functions.Triple → ℕ → Type 0)
    (one : (u w : functions.Triple) (i : ℕ) → Has u i → Has w i → AreSame u w) where
  numbered : (us : List functions.Triple)
      → ((j : ℕ) (d : functions.Triple) → j < length us → (i : ℕ) × Has (get_or us j d) i)
      → (is : List ℕ) × Numbered Has us is × (length is ≡ length us)
  numbered [] each = ([], none, refl)
  numbered (u ∷ us) each =
      let first = each 0 u (omega arith) in
      let rest = numbered us (λ j d below. each (suc j) d (omega (arith, below))) in
      (first.0 ∷ rest.0, more u us first.0 rest.0 first.1 rest.1, omega (arith, rest.2))

  abbrev Found : List functions.Triple → ℕ → Type 0
  Found us q = (j : ℕ) × (u : functions.Triple) × (j < length us) × Has u q
      × ((d : functions.Triple) → get_or us j d ≡ u)

  found_case : (u : functions.Triple) (us : List functions.Triple) (i : ℕ) (is : List ℕ) (q : ℕ) → Has u i
      → (list_any (eqb q) is ≡ true → Found us q) → (b : Bool) → eqb q i ≡ b
      → (b || list_any (eqb q) is) ≡ true → Found (u ∷ us) q
  found_case u us i is q has rest true e any =
      let same : i ≡ q = grind (arith, nat_tests) in
      (0, u, omega arith, subst (Has u) same has, λ d. refl)
  found_case u us i is q has rest false e any =
      let found = rest any in
      (suc found.0, found.1, omega (arith, found.2), found.3, found.4)

  found_at : (us : List functions.Triple) (is : List ℕ) (q : ℕ) → Numbered Has us is
      → list_any (eqb q) is ≡ true → Found us q
  found_at all numbers q none any = absurd (false≢true any)
  found_at all numbers q (more u us i is has rest) any =
      found_case u us i is q has (found_at us is q rest) (eqb q i) refl any

  no_head : (a b : Bool) → (a || b) ≡ false → (a ≡ false) × (b ≡ false)
  no_head true b h = absurd (false≢true (sym h))
  no_head false b h = (refl, h)

  no_member : (test : ℕ → Bool) (is : List ℕ) → list_any test is ≡ false → AllByRecursion (λ i. test i ≡ false) is
  no_member test [] h = tt
  no_member test (i ∷ is) h = let both = no_head (test i) (list_any test is) h in (both.0, no_member test is both.1)

  never_found : (u : functions.Triple) (us : List functions.Triple) (is : List ℕ) (i : ℕ) → Has u i
      → Numbered Has us is → ((j : ℕ) → j < length us → ¬ AreSame u (get_or us j u)) → (b : Bool)
      → list_any (eqb i) is ≡ b → b ≡ false
  never_found u us is i has rest apart false any = refl
  never_found u us is i has rest apart true any =
      let found = found_at us is i rest any in
      absurd (apart found.0 found.2 (subst (AreSame u) (sym (found.4 u)) (one u found.1 i has found.3)))

  distinct : (us : List functions.Triple) (is : List ℕ) → Numbered Has us is
      → AllPairs (λ u w. ¬ AreSame u w) us → IsDistinct eqb is
  unfolding IsDistinct
  distinct all numbers none different = tt
  distinct all numbers (more u us i is has rest) different = (
    no_member (eqb i) is
        (never_found u us is i has rest (λ j below. different 0 (suc j) u (omega arith) (omega (arith, below)))
        (list_any (eqb i) is) refl),
    distinct us is rest
        (λ j k d first second. different (suc j) (suc k) d (omega (arith, first)) (omega (arith, second))),
  )

  -- where each joint cofactor has a number below some, and those of one number are one, there are no more than that
  pub at_most_numbers : (t : functions.Triple) (n : ℕ) → ((u : functions.Triple) (i : ℕ) → Has u i → i < n)
      → ((u : functions.Triple) → IsCofactor t u → (i : ℕ) × Has u i) → HasAtMostCofactors t n
  at_most_numbers t n below number us are =
      let all = numbered us (λ j d within. number (get_or us j d) (are.each j d within)) in
      let most = length-le_from_distinct_below all.0 n (distinct us all.0 all.1 are.different)
      (λ q any. let found = found_at us all.0 q all.1 any in below found.1 q found.3) in
      omega (arith, most, all.2)

module _ (nodes : List Node) (triples : List Triple) where
  -- a triple of functions is that of nodes at a place
  abbrev IsAt : functions.Triple → ℕ → Type 0
  IsAt u i = (t : Triple) × (slice_get triples i ≡ Some t) × AreSame u (meaning nodes t)

  one_at : (u w : functions.Triple) (i : ℕ) → IsAt u i → IsAt w i → AreSame u w
  one_at u w i is other =
      let one = same_Some is.0 other.0 (sym is.1 ∙ other.1) in
      same_then u (meaning nodes other.0) w (subst (λ (t : Triple). AreSame u (meaning nodes t)) one is.2)
      (same_back w (meaning nodes other.0) other.2)

  -- where all joint cofactors are among some triples, they are no more than these
  pub at_most : (t : Triple) (n : ℕ) → AreAmong nodes triples t → length triples ≤ n
      → HasAtMostCofactors (meaning nodes t) n
  at_most t n among few =
      at_most_numbers IsAt one_at (meaning nodes t) n
      (λ u i is. let within = slice_get_within triples i is.0 is.1 in omega (arith, within, few))
      (λ u is. let found = among u is in (found.0, (found.1, found.2, found.4)))

pub most-same : (t u : functions.Triple) (n : ℕ) → AreSame t u → HasAtMostCofactors t n → HasAtMostCofactors u n
most-same t u n same most us are =
    most us (record {
      each = λ i d below. cofactor-same u t _ (same_back t u same) (are.each i d below);
      different = are.different;
    })

-- the same of the triple before the table grew
pub at_most_before : (old new : List Node) (triples : List Triple) (t : Triple) (n : ℕ) → Grows old new → AreDds old t
    → AreAmong new triples t → length triples ≤ n → HasAtMostCofactors (meaning old t) n
at_most_before old new triples t n grows there among few =
    most-same (meaning new t) (meaning old t) n (meaning-grows old new t grows there)
    (at_most new triples t n among few)
