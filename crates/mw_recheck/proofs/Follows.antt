-- Facts that follow are true.
use Rattle.std.proofs.Common.{◌≡◌, ◌⊎◌, inl, inr, ℕ, ◌<◌, List, [], ◌∷◌, ◌++◌, arith, refl, ap, sym, ◌∙◌, subst}
use Rattle.std.specs.Prelude.{Bool, true, false, ◌&&◌, ◌==◌, if◌then◌else◌, nat_lt, Option, Some, None}
use Rattle.std.specs.Option.{option_or}
use Rattle.std.proofs.lemmas.Bool.{cases_eq, eq-eqb, ne_eqb, eqb-true, ltb-true, and_parts, or_cases, false≢true}
use Rattle.std.proofs.lemmas.List.{length-append}
use Rattle.mw_term.specs.Assigned.{Given}
use Rattle.mw_term.specs.Cofactors.{Variable, value_of, Agree}
use Rattle.mw_recheck.specs.declared.line.Node.{Node}
use Rattle.mw_recheck.specs.declared.line.Triple.{Triple}
use Rattle.mw_recheck.specs.Facts.{Facts, chosen, at_once, result_of, half, half_of, halves, chooses, joins}
use Rattle.mw_recheck.specs.Facts.{follows_by, is_result, first_variable, follows, are_there, is_new_fact}
use Rattle.mw_recheck.specs.Nodes.{variable_of, is_variable, count, node_at, value_at, function_of}
use Rattle.mw_recheck.proofs.Order.{is_same}
use Rattle.mw_recheck.proofs.Reduced.{IsReduced, at_place}
use Rattle.mw_recheck.proofs.Values.{value-node, value-old, value-zero, value-one, value-high, value-low}

-- the nodes that a fact names are there, and it is true
pub record IsTrueFact (nodes : List Node) (t : Triple) (r : ℕ) : Type 0 where
  pub f_there : t.f < count nodes
  pub g_there : t.g < count nodes
  pub h_there : t.h < count nodes
  pub r_there : r < count nodes
  pub value : Agree (function_of nodes r) (chosen nodes t)

-- the nodes that a fact names are there
pub there : (nodes : List Node) (t : Triple) (r : ℕ) → are_there nodes t r ≡ true
    → (t.f < count nodes) × (t.g < count nodes) × (t.h < count nodes) × (r < count nodes)
unfolding are_there
there nodes t r is =
    let n = count nodes in
    let f = and_parts (nat_lt t.f n) (nat_lt t.g n && (nat_lt t.h n && nat_lt r n)) is in
    let g = and_parts (nat_lt t.g n) (nat_lt t.h n && nat_lt r n) f.1 in
    let h = and_parts (nat_lt t.h n) (nat_lt r n) g.1 in
    (ltb-true t.f n f.0, ltb-true t.g n g.0, ltb-true t.h n h.0, ltb-true r n h.1)

-- it stays so with one node more
pub true_fact-push : (nodes : List Node) (n : Node) (t : Triple) (r : ℕ) → IsTrueFact nodes t r
    → IsTrueFact (nodes ++ n ∷ []) t r
true_fact-push nodes n t r is =
    let more = length-append nodes (n ∷ []) in
    record {
      f_there = omega (arith, more, is.f_there);
      g_there = omega (arith, more, is.g_there);
      h_there = omega (arith, more, is.h_there);
      r_there = omega (arith, more, is.r_there);
      value = λ given. rw (
        value-old given nodes n r is.r_there,
        value-old given nodes n t.f is.f_there,
        value-old given nodes n t.g is.g_there,
        value-old given nodes n t.h is.h_there,
      ) (is.value given);
    }

-- ---- at once

ends : (t : Triple) (r : ℕ) → at_once t ≡ Some r
    → ((t.f ≡ 0) × (r ≡ t.h)) ⊎ (((t.f ≡ 1) × (r ≡ t.g)) ⊎ ((t.g ≡ t.h) × (r ≡ t.g)))
unfolding at_once
ends t r is = elim (cases_eq t.f 0) [
  | inl never ↦
      let e : ◌≡◌ {A = Option ℕ} (Some t.h) (Some r) = rw (eq-eqb t.f 0 never) at is in
      inl (never, (cc))
  | inr some ↦ elim (cases_eq t.f 1) [
    | inl always ↦
        let e : ◌≡◌ {A = Option ℕ} (Some t.g) (Some r) = rw (ne_eqb t.f 0 some, eq-eqb t.f 1 always) at is in
        inr (inl (always, (cc)))
    | inr other ↦ elim (cases_eq t.g t.h) [
      | inl same ↦
          let e : ◌≡◌ {A = Option ℕ} (Some t.g) (Some r) =
          rw (ne_eqb t.f 0 some, ne_eqb t.f 1 other, eq-eqb t.g t.h same) at is in
          inr (inr (same, (cc)))
      | inr differ ↦
          let e : ◌≡◌ {A = Option ℕ} None (Some r) =
          rw (ne_eqb t.f 0 some, ne_eqb t.f 1 other, ne_eqb t.g t.h differ) at is in
          absurd cc
    ]
  ]
]

either : (b x : Bool) → x ≡ (if b then x else x)
either true x = refl
either false x = refl

end_value : (nodes : List Node) (t : Triple) (r : ℕ) → at_once t ≡ Some r
    → Agree (function_of nodes r) (chosen nodes t)
end_value nodes t r is = elim (ends t r is) [
  | inl first ↦ λ given. rw (first.1, first.0, value-zero given nodes) refl
  | inr rest ↦ elim rest [
    | inl second ↦ λ given. rw (second.1, second.0, value-one given nodes) refl
    | inr third ↦ λ given. rw (third.1, ← third.0) (either (value_at given nodes t.f) (value_at given nodes t.g))
  ]
]

-- ---- at once or by an earlier fact

abbrev pub AreTrue : List Node → Facts → Type 0
AreTrue nodes facts = (t : Triple) (r : ℕ) → facts t ≡ Some r → IsTrueFact nodes t r

result_cases : (a b : Option ℕ) (r : ℕ) → option_or a b ≡ Some r → (a ≡ Some r) ⊎ (b ≡ Some r)
result_cases None b r is = inr is
result_cases (Some x) b r is = inl is

result_value : (nodes : List Node) (facts : Facts) → AreTrue nodes facts → (t : Triple) (r : ℕ)
    → result_of facts t ≡ Some r → Agree (function_of nodes r) (chosen nodes t)
result_value nodes facts are t r is = elim (result_cases (at_once t) (facts t) r is) [
  | inl ends ↦ end_value nodes t r ends
  | inr stated ↦ (are t r stated).value
]

-- ---- halves

module _ (nodes : List Node) (reduced : IsReduced nodes) (v : Variable) where
  own_half : (given : Given) (x : ℕ) (n : Node) → node_at nodes x ≡ Some n → (b : Bool)
      → value_of (variable_of n) given ≡ b
      → value_at given nodes (if b then n.high else n.low) ≡ value_at given nodes x
  own_half given x n at true is =
      let place = at_place nodes x n at in
      let i = reduced.inner place.0 n place.2 in
      rw place.1 (sym (value-high given nodes place.0 n place.2 i.low i.high is))
  own_half given x n at false is =
      let place = at_place nodes x n at in
      let i = reduced.inner place.0 n place.2 in
      rw place.1 (sym (value-low given nodes place.0 n place.2 i.low i.high is))

  half_by : (given : Given) (b : Bool) → value_of v given ≡ b → (x : ℕ) (n : Node) → node_at nodes x ≡ Some n
      → (own : Bool) → is_variable v (variable_of n) ≡ own
      → value_at given nodes (if own then (if b then n.high else n.low) else x) ≡ value_at given nodes x
  half_by given b is x n at true own =
      own_half given x n at b
      (subst (λ (u : Variable). value_of u given ≡ b) (is_same v (variable_of n) own) is)
  half_by given b is x n at false own = refl

  half_at : (given : Given) (b : Bool) → value_of v given ≡ b → (x : ℕ) (found : Option Node)
      → node_at nodes x ≡ found → value_at given nodes (half_of v b x found) ≡ value_at given nodes x
  half_at given b is x None at = refl
  half_at given b is x (Some n) at = half_by given b is x n at (is_variable v (variable_of n)) refl

  -- a node has its value where the variable has this one
  half_value : (given : Given) (b : Bool) → value_of v given ≡ b → (x : ℕ)
      → value_at given nodes (half nodes v b x) ≡ value_at given nodes x
  half_value given b is x = half_at given b is x (node_at nodes x) refl

  halves_value : (given : Given) (b : Bool) → value_of v given ≡ b → (t : Triple)
      → chosen nodes (halves nodes v b t) given ≡ chosen nodes t given
  unfolding halves
  halves_value given b is t =
      let value : ℕ → Bool = λ x. value_at given nodes x in
      ap (λ (x : Bool). if x then value (half nodes v b t.g) else value (half nodes v b t.h))
      (half_value given b is t.f)
      ∙ ap (λ (x : Bool). if value t.f then x else value (half nodes v b t.h)) (half_value given b is t.g)
      ∙ ap (λ (x : Bool). if value t.f then value t.g else x) (half_value given b is t.h)

  -- ---- a node over two results

  chosen_value : (given : Given) (a b r : ℕ) (found : Option Node) → node_at nodes r ≡ found
      → chooses v a b found ≡ true
      → value_at given nodes r ≡ (if value_of v given then value_at given nodes a else value_at given nodes b)
  chosen_value given a b r None at is = absurd (false≢true is)
  chosen_value given a b r (Some n) at is =
      let parts = and_parts (is_variable v (variable_of n)) ((n.high == a) && (n.low == b)) is in
      let both = and_parts (n.high == a) (n.low == b) parts.1 in
      let own : v ≡ variable_of n = is_same v (variable_of n) parts.0 in
      let high : n.high ≡ a = eqb-true n.high a both.0 in
      let low : n.low ≡ b = eqb-true n.low b both.1 in
      let place = at_place nodes r n at in
      let i = reduced.inner place.0 n place.2 in
      rw (place.1, own, ← high, ← low) (value-node given nodes place.0 n place.2 i.low i.high)

  pub record AreJoined (r : ℕ) (high low : Option ℕ) : Type 0 where
    pub a : ℕ
    pub b : ℕ
    pub high_is : high ≡ Some a
    pub low_is : low ≡ Some b
    pub value : (given : Given)
        → value_at given nodes r ≡ (if value_of v given then value_at given nodes a else value_at given nodes b)

  joined : (r : ℕ) (high low : Option ℕ) → joins nodes v r high low ≡ true → AreJoined r high low
  joined r (Some a) (Some b) is = record {
    a = a;
    b = b;
    high_is = refl;
    low_is = refl;
    value = λ given. elim (or_cases (chooses v a b (node_at nodes r)) ((a == r) && (b == r)) is) [
      | inl one ↦ chosen_value given a b r (node_at nodes r) refl one
      | inr both ↦
          let parts = and_parts (a == r) (b == r) both in
          let same : a ≡ r = eqb-true a r parts.0 in
          let also : b ≡ r = eqb-true b r parts.1 in
          rw (same, also) (either (value_of v given) (value_at given nodes r))
    ];
  }
  joined r (Some a) None is = absurd (false≢true is)
  joined r None low is = absurd (false≢true is)

  module _ (facts : Facts) (are : AreTrue nodes facts) (t : Triple) (r : ℕ) where
    by_side : (given : Given) (a b : ℕ)
        → result_of facts (halves nodes v true t) ≡ Some a → result_of facts (halves nodes v false t) ≡ Some b
        → (side : Bool) → value_of v given ≡ side
        → value_at given nodes r ≡ (if side then value_at given nodes a else value_at given nodes b)
        → value_at given nodes r ≡ chosen nodes t given
    by_side given a b high low true is value =
        value ∙ result_value nodes facts are (halves nodes v true t) a high given ∙ halves_value given true is t
    by_side given a b high low false is value =
        value ∙ result_value nodes facts are (halves nodes v false t) b low given ∙ halves_value given false is t

    joined_value : joins nodes v r (result_of facts (halves nodes v true t)) (result_of facts (halves nodes v false t))
        ≡ true → Agree (function_of nodes r) (chosen nodes t)
    joined_value is =
        let both = joined r (result_of facts (halves nodes v true t)) (result_of facts (halves nodes v false t)) is in
        λ given. by_side given both.a both.b both.high_is both.low_is (value_of v given) refl (both.value given)

-- ---- a fact that follows

module _ (nodes : List Node) (reduced : IsReduced nodes) (facts : Facts) (are : AreTrue nodes facts) (t : Triple)
    (r : ℕ) where
  result_is : (found : Option ℕ) → is_result r found ≡ true → found ≡ Some r
  result_is None is = absurd (false≢true is)
  result_is (Some a) is = ap Some (eqb-true a r is)

  by_first : (first : Option Variable) → follows_by nodes facts t r first ≡ true
      → Agree (function_of nodes r) (chosen nodes t)
  by_first None is = absurd (false≢true is)
  by_first (Some v) is = joined_value nodes reduced v facts are t r is

  followed : follows nodes facts t r ≡ true → Agree (function_of nodes r) (chosen nodes t)
  unfolding follows
  followed is =
      elim (or_cases (is_result r (at_once t)) (follows_by nodes facts t r (first_variable nodes t)) is) [
        | inl once ↦ end_value nodes t r (result_is (at_once t) once)
        | inr halves ↦ by_first (first_variable nodes t) halves
      ]

  -- a fact that keeps the rule is true
  pub new_fact_is_true : is_new_fact nodes facts t r ≡ true → IsTrueFact nodes t r
  new_fact_is_true is =
      let parts = and_parts (are_there nodes t r) (follows nodes facts t r) is in
      let all = there nodes t r parts.0 in
      record { f_there = all.0; g_there = all.1; h_there = all.2; r_there = all.3; value = followed parts.1 }
