-- Nodes that are looked at, and one that is made.
use Rattle.std.proofs.Common.{◌≡◌, ◌⊎◌, inl, inr, ℕ, ◌+◌, ◌-◌, ◌<◌, ◌≤◌, List, [], ◌∷◌, ◌++◌, length, arith, refl, ap}
use Rattle.std.proofs.Common.{◌∙◌, sym, subst}
use Rattle.std.specs.Prelude.{Bool, true, false, if◌then◌else◌, slice_get, Some}
use Rattle.std.proofs.lemmas.Option.{slice_get_within}
use Rattle.mw_term.specs.Assigned.{Given}
use Rattle.mw_term.specs.Cofactors.{Variable, value_of, is_before}
use Rattle.mw_dd.specs.declared.nodes.Node.{Node}
use Rattle.mw_dd.specs.declared.nodes.Triple.{Triple}
use Rattle.mw_dd.specs.Links.{IsAbsent}
use Rattle.mw_dd.specs.Nodes.{value_at, IsDd, IsFrom, IsInner, IsReduced, after}
use Rattle.mw_dd.specs.Steps.{HasVariable, IsTop, IsBranch}
use Rattle.mw_dd.proofs.Lists.{get-push, get-push_new}
use Rattle.mw_dd.proofs.Order.{not_before_itself, other_after}
use Rattle.mw_dd.proofs.Values.{value-node, value-high, value-low, value-old, grows-push}
use Rattle.mw_dd.proofs.From.{one_node, from_node, from-trans, from-grows}

-- a node of another variable is from the place after this one
branch-from : (nodes : List Node) (x : ℕ) (v : Variable) (n : Node) → 2 ≤ x → slice_get nodes (x - 2) ≡ Some n
    → IsFrom nodes v x → ¬ (n.variable ≡ v) → IsFrom nodes (after v) x
branch-from nodes x v n inner at from differ k m e of =
    let same = one_node nodes (x - 2) k n m (omega (arith, e)) at of in
    other_after m.variable v (from k m e of) (λ alike. differ (subst (λ (y : Node). y.variable ≡ v) (sym same) alike))

-- so it is itself, whatever value this has
pub branch-other : (nodes : List Node) (x : ℕ) (v : Variable) (n : Node) (b : Bool) → IsDd nodes x → 2 ≤ x
    → slice_get nodes (x - 2) ≡ Some n → IsFrom nodes v x → ¬ (n.variable ≡ v) → IsBranch nodes x v b x
branch-other nodes x v n b there inner at from differ = record {
  there = there;
  no_later = omega arith;
  earlier = λ has.
      let same = one_node nodes (x - 2) has.0 n has.1 (omega (arith, has.2)) at has.3 in
      absurd (differ (subst (λ (y : Node). y.variable ≡ v) (sym same) has.4));
  value = λ given holds. refl;
  from = branch-from nodes x v n inner at from differ;
}

-- a node of this variable is its branch
pub branch-high : (nodes : List Node) (x : ℕ) (v : Variable) (n : Node) → IsDd nodes x → 2 ≤ x
    → slice_get nodes (x - 2) ≡ Some n → IsReduced nodes → n.variable ≡ v → IsBranch nodes x v true n.high
branch-high nodes x v n there inner at r same =
    let i = r.inner (x - 2) n at in
    let e : x - 2 + 2 ≡ x = omega (arith, inner) in
    record {
      there = omega (arith, i.high, there, inner);
      no_later = omega (arith, i.high, inner);
      earlier = λ has. omega (arith, i.high, inner);
      value = λ given holds.
          sym (subst (λ (y : ℕ). value_at given nodes y ≡ value_at given nodes n.high) e
          (value-high given nodes (x - 2) n at i.low i.high (ap (λ (u : Variable). value_of u given) same ∙ holds)));
      from = subst (λ (u : Variable). IsFrom nodes (after u) n.high) same i.high_later;
    }

pub branch-low : (nodes : List Node) (x : ℕ) (v : Variable) (n : Node) → IsDd nodes x → 2 ≤ x
    → slice_get nodes (x - 2) ≡ Some n → IsReduced nodes → n.variable ≡ v → IsBranch nodes x v false n.low
branch-low nodes x v n there inner at r same =
    let i = r.inner (x - 2) n at in
    let e : x - 2 + 2 ≡ x = omega (arith, inner) in
    record {
      there = omega (arith, i.low, there, inner);
      no_later = omega (arith, i.low, inner);
      earlier = λ has. omega (arith, i.low, inner);
      value = λ given holds.
          sym (subst (λ (y : ℕ). value_at given nodes y ≡ value_at given nodes n.low) e
          (value-low given nodes (x - 2) n at i.low i.high (ap (λ (u : Variable). value_of u given) same ∙ holds)));
      from = subst (λ (u : Variable). IsFrom nodes (after u) n.low) same i.low_later;
    }

-- ---- the first variable

pub from_own : (nodes : List Node) (x : ℕ) (v : Variable) → HasVariable nodes x v → IsFrom nodes v x
from_own nodes x v has =
    subst (IsFrom nodes v) (sym has.2)
    (from_node nodes v has.0 has.1 has.3 (ap (λ (u : Variable). is_before u v) has.4 ∙ not_before_itself v))

one_of : (nodes : List Node) (t : Triple) (w v u : Variable) → HasVariable nodes t.f w
    → (v ≡ w) ⊎ HasVariable nodes t.g v → (u ≡ v) ⊎ HasVariable nodes t.h u
    → HasVariable nodes t.f u ⊎ (HasVariable nodes t.g u ⊎ HasVariable nodes t.h u)
one_of nodes t w v u own (inl first) (inl second) =
    inl (subst (HasVariable nodes t.f) (sym (second ∙ first)) own)
one_of nodes t w v u own (inr first) (inl second) = inr (inl (subst (HasVariable nodes t.g) (sym second) first))
one_of nodes t w v u own first (inr second) = inr (inr second)

pub top-is : (nodes : List Node) (t : Triple) (w v u : Variable) → HasVariable nodes t.f w
    → (v ≡ w) ⊎ HasVariable nodes t.g v → is_before w v ≡ false → IsFrom nodes v t.g
    → (u ≡ v) ⊎ HasVariable nodes t.h u → is_before v u ≡ false → IsFrom nodes u t.h → IsTop nodes t u
top-is nodes t w v u own first below_first from_first second below_second from_second = record {
  one = one_of nodes t w v u own first second;
  from = record {
    f = from-trans nodes v u t.f (from-trans nodes w v t.f (from_own nodes t.f w own) below_first) below_second;
    g = from-trans nodes v u t.g from_first below_second;
    h = from_second;
  };
}

-- ---- a node that is made

-- what a node's branches are to be
pub record CanBeMade (nodes : List Node) (n : Node) : Type 0 where
  pub bit : n.variable.bit < 32
  pub low : IsDd nodes n.low
  pub high : IsDd nodes n.high
  pub low_later : IsFrom nodes (after n.variable) n.low
  pub high_later : IsFrom nodes (after n.variable) n.high

module _ (nodes : List Node) (r : IsReduced nodes) (n : Node) (can : CanBeMade nodes n) where
  inner_old : (k : ℕ) (m : Node) → IsInner nodes k m → k < length nodes → IsInner (nodes ++ n ∷ []) k m
  inner_old k m i within =
      let grows = grows-push nodes n in
      record {
        bit = i.bit;
        low = i.low;
        high = i.high;
        low_later = from-grows nodes (nodes ++ n ∷ []) (after m.variable) m.low grows
            (omega (arith, i.low, within)) i.low_later;
        high_later = from-grows nodes (nodes ++ n ∷ []) (after m.variable) m.high grows
            (omega (arith, i.high, within)) i.high_later;
        differ = i.differ;
      }

  inner_new : ¬ (n.low ≡ n.high) → IsInner (nodes ++ n ∷ []) (length nodes) n
  inner_new differ =
      let grows = grows-push nodes n in
      record {
        bit = can.bit;
        low = can.low;
        high = can.high;
        low_later = from-grows nodes (nodes ++ n ∷ []) (after n.variable) n.low grows can.low can.low_later;
        high_later = from-grows nodes (nodes ++ n ∷ []) (after n.variable) n.high grows can.high can.high_later;
        differ = differ;
      }

  moved : (m : Node) (k : ℕ) → k ≡ length nodes → n ≡ m → IsInner (nodes ++ n ∷ []) (length nodes) n
      → IsInner (nodes ++ n ∷ []) k m
  moved m k last same i =
      subst (λ (y : Node). IsInner (nodes ++ n ∷ []) k y) same
      (subst (λ (j : ℕ). IsInner (nodes ++ n ∷ []) j n) (sym last) i)

  absent_node : IsAbsent nodes n → (k : ℕ) (m : Node) → slice_get nodes k ≡ Some m → n ≡ m → ⊥
  absent_node absent k m at same = absent k (at ∙ ap Some (sym same))

  pub reduced-push : ¬ (n.low ≡ n.high) → IsAbsent nodes n → IsReduced (nodes ++ n ∷ [])
  reduced-push differ absent = record {
    inner = λ k m at. elim (get-push nodes n k m at) [
      | inl old ↦ inner_old k m (r.inner k m old) (slice_get_within nodes k m old)
      | inr new ↦ moved m k new.0 new.1 (inner_new differ)
    ];
    once = λ j k m at of. elim (get-push nodes n j m at) [
      | inl old ↦ elim (get-push nodes n k m of) [
        | inl also ↦ r.once j k m old also
        | inr new ↦ absurd (absent_node absent j m old new.1)
      ]
      | inr new ↦ elim (get-push nodes n k m of) [
        | inl old ↦ absurd (absent_node absent k m old new.1)
        | inr also ↦ omega (arith, new.0, also.0)
      ]
    ];
  }

-- the value of a node that was found
pub found_value : (nodes : List Node) → IsReduced nodes → (n : Node) (place : ℕ) (given : Given)
    → slice_get nodes place ≡ Some n → value_at given nodes (place + 2)
    ≡ (if value_of n.variable given then value_at given nodes n.high else value_at given nodes n.low)
found_value nodes r n place given at =
    let i = r.inner place n at in
    value-node given nodes place n at i.low i.high

-- and of one that was made
pub made_value : (nodes : List Node) (n : Node) → CanBeMade nodes n → (given : Given)
    → value_at given (nodes ++ n ∷ []) (length nodes + 2)
    ≡ (if value_of n.variable given then value_at given nodes n.high else value_at given nodes n.low)
made_value nodes n can given =
    let high = value-old given nodes n n.high can.high in
    let low = value-old given nodes n n.low can.low in
    value-node given (nodes ++ n ∷ []) (length nodes) n (get-push_new nodes n) can.low can.high ∙ rw (high, low) refl

pub made_from : (nodes : List Node) (n : Node) → IsFrom (nodes ++ n ∷ []) n.variable (length nodes + 2)
made_from nodes n =
    from_node (nodes ++ n ∷ []) n.variable (length nodes) n (get-push_new nodes n) (not_before_itself n.variable)
