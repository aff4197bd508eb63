-- Nodes of a boundary are ordered, and each stands once.
use Rattle.std.proofs.Common.{◌≡◌, inl, inr, ℕ, suc, zero, ◌+◌, ◌-◌, ◌<◌, ◌^◌, List, [], ◌∷◌, ◌++◌, length, arith}
use Rattle.std.proofs.Common.{refl, ap, ◌∙◌, sym, subst}
use Rattle.std.specs.Prelude.{Bool, true, false, not, if◌then◌else◌, ◌==◌, ◌&&◌, ◌||◌, nat_lt, slice_get, Option, Some}
use Rattle.std.specs.Prelude.{None}
use Rattle.std.specs.List.{list_any}
use Rattle.std.proofs.lemmas.Bool.{cases_lt, lt-ltb, le-ltb, ltb-true, eqb-false, eq-eqb, not-true, and_parts, and_from}
use Rattle.std.proofs.lemmas.Bool.{or_cases, false≢true}
use Rattle.std.proofs.Math.Bool.{or-true}
use Rattle.std.proofs.lemmas.Nat.Bits.{bit_at-zero, bit_at-pow_same}
use Rattle.std.proofs.lemmas.Option.{slice_get_cases, slice_get_within}
use Rattle.mw_term.specs.Assigned.{Given}
use Rattle.mw_term.specs.Cofactors.{Variable, value_of, is_before, with_fixed}
use Rattle.mw_term.proofs.Fixed.{fixed_are_before}
use Rattle.mw_recheck.specs.declared.line.Node.{Node}
use Rattle.mw_recheck.specs.Nodes.{variable_of, value_at, count, node_at, is_later, can_be_branch, branches_fit}
use Rattle.mw_recheck.specs.Nodes.{is_node, is_among}
use Rattle.mw_recheck.proofs.Order.{after, not_before-trans, after_later, before_after, later_after}
use Rattle.mw_recheck.proofs.Places.{get-push}
use Rattle.mw_recheck.proofs.Values.{value-node, value-zero, value-one}

-- a node's own variable isn't before a place; a constant has none
abbrev pub IsFrom : List Node → Variable → ℕ → Type 0
IsFrom nodes place x =
    (k : ℕ) (n : Node) → x ≡ k + 2 → slice_get nodes k ≡ Some n → is_before (variable_of n) place ≡ false

-- a node: its branches are earlier, of later variables, and differ
pub record IsInner (nodes : List Node) (k : ℕ) (n : Node) : Type 0 where
  pub low : n.low < k + 2
  pub high : n.high < k + 2
  pub low_later : IsFrom nodes (after (variable_of n)) n.low
  pub high_later : IsFrom nodes (after (variable_of n)) n.high
  pub differ : ¬ (n.low ≡ n.high)

-- nodes, each once
pub record IsReduced (nodes : List Node) : Type 0 where
  pub inner : (k : ℕ) (n : Node) → slice_get nodes k ≡ Some n → IsInner nodes k n
  pub once : (j k : ℕ) (n : Node) → slice_get nodes j ≡ Some n → slice_get nodes k ≡ Some n → j ≡ k

-- ---- a node by its number

-- a node is a constant, or stands in the list
pub data NodeCase (nodes : List Node) (x : ℕ) : Type 0 where
  is_false : x ≡ 0 → NodeCase nodes x
  is_true : x ≡ 1 → NodeCase nodes x
  is_inner : (k : ℕ) (n : Node) → x ≡ k + 2 → slice_get nodes k ≡ Some n → NodeCase nodes x

pub case_of : (nodes : List Node) (x : ℕ) → x < count nodes → NodeCase nodes x
case_of nodes zero h = is_false refl
case_of nodes (suc zero) h = is_true refl
case_of nodes (suc (suc k)) h = elim (slice_get_cases nodes k).1 [
  | inl there ↦ is_inner k there.0 (omega arith) there.2
  | inr past ↦ absurd (omega (arith, past.0))
]

-- what stands at a number stands at its place
pub at_place : (nodes : List Node) (x : ℕ) (n : Node) → node_at nodes x ≡ Some n
    → (k : ℕ) × (x ≡ k + 2) × (slice_get nodes k ≡ Some n)
at_place nodes x n is = elim (cases_lt x 2) [
  | inl small ↦
      let none : node_at nodes x ≡ None = rw (lt-ltb x 2 small) refl in
      let no : ◌≡◌ {A = Option Node} None (Some n) = sym none ∙ is in
      absurd cc
  | inr large ↦ (x - 2, omega arith, rw (le-ltb x 2 large) at is)
]

some_same : (n m : Node) → Some n ≡ Some m → n ≡ m
some_same n m e = cc

-- the node at a place is one
pub one_node : (nodes : List Node) (j k : ℕ) (n m : Node) → j ≡ k → slice_get nodes j ≡ Some n
    → slice_get nodes k ≡ Some m → n ≡ m
one_node nodes j k n m same at of = some_same n m (sym at ∙ ap (slice_get nodes) same ∙ of)

-- ---- from a place on

pub from_constant : (nodes : List Node) (place : Variable) (x : ℕ) → x < 2 → IsFrom nodes place x
from_constant nodes place x h k n e at = absurd (omega (arith, h, e))

pub from_node : (nodes : List Node) (place : Variable) (k : ℕ) (n : Node) → slice_get nodes k ≡ Some n
    → is_before (variable_of n) place ≡ false → IsFrom nodes place (k + 2)
from_node nodes place k n at later j m e of =
    let same = one_node nodes k j n m (omega (arith, e)) at of in
    subst (λ (x : Node). is_before (variable_of x) place ≡ false) same later

from-after : (nodes : List Node) (v place : Variable) (x : ℕ) → IsFrom nodes (after v) x
    → is_before v place ≡ false → IsFrom nodes place x
from-after nodes v place x from later k n e at =
    not_before-trans (variable_of n) (after v) place (from k n e at) (after_later v place later)

from-push : (nodes : List Node) (n : Node) (place : Variable) (x : ℕ) → x < count nodes → IsFrom nodes place x
    → IsFrom (nodes ++ n ∷ []) place x
from-push nodes n place x there from k m e at = elim (get-push nodes n k m at) [
  | inl old ↦ from k m e old
  | inr new ↦ absurd (omega (arith, new.0, e, there))
]

-- ---- assignments that give the same from a place on

module _ (nodes : List Node) (r : IsReduced nodes) (place : Variable) (a b : Given)
    (same : (u : Variable) → is_before u place ≡ false → value_of u a ≡ value_of u b) where
  abbrev Alike : ℕ → Type 0
  Alike bound = (x : ℕ) → x < bound → x < count nodes → IsFrom nodes place x → value_at a nodes x ≡ value_at b nodes x

  alike_at : (bound x : ℕ) → Alike bound → x < suc bound → x < count nodes → IsFrom nodes place x → NodeCase nodes x
      → value_at a nodes x ≡ value_at b nodes x
  alike_at bound x ih h t from (is_false e) = rw e (value-zero a nodes ∙ sym (value-zero b nodes))
  alike_at bound x ih h t from (is_true e) = rw e (value-one a nodes ∙ sym (value-one b nodes))
  alike_at bound x ih h t from (is_inner k n e at) =
      let i = r.inner k n at in
      let own = from k n e at in
      let low = ih n.low (omega (arith, i.low, e, h)) (omega (arith, i.low, e, t))
      (from-after nodes (variable_of n) place n.low i.low_later own) in
      let high = ih n.high (omega (arith, i.high, e, h)) (omega (arith, i.high, e, t))
      (from-after nodes (variable_of n) place n.high i.high_later own) in
      rw (
        e,
        value-node a nodes k n at i.low i.high,
        value-node b nodes k n at i.low i.high,
        same (variable_of n) own,
        low,
        high,
      ) refl

  alike : (bound : ℕ) → Alike bound
  alike zero x h t from = absurd (omega (arith, h))
  alike (suc bound) x h t from = alike_at bound x (alike bound) h t from (case_of nodes x t)

  -- a node from a place on has the same value under both
  pub same_from : (x : ℕ) → x < count nodes → IsFrom nodes place x → value_at a nodes x ≡ value_at b nodes x
  same_from x t from = alike (suc x) x (omega arith) t from

-- ---- fixed variables

fixed_later : (place u : Variable) (fixed given : Given) → is_before u place ≡ false
    → value_of u (with_fixed place fixed given) ≡ value_of u given
fixed_later place u fixed given later =
    fixed_are_before place u fixed given ∙ ap (λ b. if b then value_of u fixed else value_of u given) later

fixed_before : (place u : Variable) (fixed given : Given) → is_before u place ≡ true
    → value_of u (with_fixed place fixed given) ≡ value_of u fixed
fixed_before place u fixed given before =
    fixed_are_before place u fixed given ∙ ap (λ b. if b then value_of u fixed else value_of u given) before

-- a node doesn't see the variables before the place that it is from
pub same_fixed : (nodes : List Node) → IsReduced nodes → (place : Variable) (fixed given : Given) (x : ℕ)
    → x < count nodes → IsFrom nodes place x
    → value_at (with_fixed place fixed given) nodes x ≡ value_at given nodes x
same_fixed nodes r place fixed given x =
    same_from nodes r place (with_fixed place fixed given) given (λ u later. fixed_later place u fixed given later) x

-- an assignment that gives a variable this value
abbrev pub only : Variable → Bool → Given
only v b = λ word. if b then 2 ^ v.bit else 0

only_is : (v : Variable) (b : Bool) → value_of v (only v b) ≡ b
only_is v true = ap (λ (n : ℕ). n == 1) (bit_at-pow_same v.bit)
only_is v false = ap (λ (n : ℕ). n == 1) (bit_at-zero v.bit)

pub fixed_only : (v : Variable) (b : Bool) (given : Given) → value_of v (with_fixed (after v) (only v b) given) ≡ b
fixed_only v b given = fixed_before (after v) v (only v b) given (before_after v) ∙ only_is v b

-- ---- one node more

later_node : (v : Variable) (found : Option Node) → is_later v found ≡ true
    → (n : Node) × (found ≡ Some n) × (is_before v (variable_of n) ≡ true)
later_node v None later = absurd (false≢true later)
later_node v (Some n) later = (n, refl, later)

-- a branch that fits is there, and of later variables
branch_is : (nodes : List Node) (v : Variable) (x : ℕ) → can_be_branch nodes v x ≡ true
    → (x < count nodes) × IsFrom nodes (after v) x
branch_is nodes v x fits = elim (or_cases (nat_lt x 2) (is_later v (node_at nodes x)) fits) [
  | inl small ↦
      let h : x < 2 = ltb-true x 2 small in
      (omega (arith, h), from_constant nodes (after v) x h)
  | inr later ↦
      let n = later_node v (node_at nodes x) later in
      let place = at_place nodes x n.0 n.1 in
      let within = slice_get_within nodes place.0 n.0 place.2 in (
        omega (arith, within, place.1),
        subst (IsFrom nodes (after v)) (sym place.1)
            (from_node nodes (after v) place.0 n.0 place.2 (later_after v (variable_of n.0) n.2)),
      )
]

-- what a node chooses is there
pub fits_there : (nodes : List Node) (n : Node) → branches_fit nodes n ≡ true
    → (n.high < count nodes) × (n.low < count nodes)
unfolding branches_fit
fits_there nodes n fits =
    let v = variable_of n in
    let parts = and_parts (not (n.high == n.low)) (can_be_branch nodes v n.high && can_be_branch nodes v n.low) fits in
    let both = and_parts (can_be_branch nodes v n.high) (can_be_branch nodes v n.low) parts.1 in
    ((branch_is nodes v n.high both.0).0, (branch_is nodes v n.low both.1).0)

node_is : (n : Node) → is_node n n ≡ true
node_is n =
    and_from (n.word == n.word) _ (eq-eqb n.word n.word refl) (and_from (n.bit == n.bit) _ (eq-eqb n.bit n.bit refl)
    (and_from (n.high == n.high) (n.low == n.low) (eq-eqb n.high n.high refl) (eq-eqb n.low n.low refl)))

among_at : (nodes : List Node) (j : ℕ) (n : Node) → slice_get nodes j ≡ Some n → is_among nodes n ≡ true
among_at [] j n at = absurd cc
among_at (m ∷ rest) zero n at =
    let same : n ≡ m = cc in
    let is : is_node n m ≡ true = subst (λ (x : Node). is_node n x ≡ true) same (node_is n) in
    ap (λ b. b || list_any (is_node n) rest) is
among_at (m ∷ rest) (suc j) n at = ap (λ b. is_node n m || b) (among_at rest j n at) ∙ or-true (is_node n m)

inner-push : (nodes : List Node) (n : Node) (k : ℕ) (m : Node) → k < length nodes → IsInner nodes k m
    → IsInner (nodes ++ n ∷ []) k m
inner-push nodes n k m within i = record {
  low = i.low;
  high = i.high;
  low_later = from-push nodes n (after (variable_of m)) m.low (omega (arith, i.low, within)) i.low_later;
  high_later = from-push nodes n (after (variable_of m)) m.high (omega (arith, i.high, within)) i.high_later;
  differ = i.differ;
}

inner-new : (nodes : List Node) (n : Node) → branches_fit nodes n ≡ true
    → IsInner (nodes ++ n ∷ []) (length nodes) n
unfolding branches_fit
inner-new nodes n fits =
    let v = variable_of n in
    let parts = and_parts (not (n.high == n.low)) (can_be_branch nodes v n.high && can_be_branch nodes v n.low) fits in
    let both = and_parts (can_be_branch nodes v n.high) (can_be_branch nodes v n.low) parts.1 in
    let high = branch_is nodes v n.high both.0 in
    let low = branch_is nodes v n.low both.1 in
    record {
      low = low.0;
      high = high.0;
      low_later = from-push nodes n (after v) n.low low.0 low.1;
      high_later = from-push nodes n (after v) n.high high.0 high.1;
      differ = λ same. eqb-false n.high n.low (not-true (n.high == n.low) parts.0) (sym same);
    }

pub reduced-none : IsReduced []
reduced-none = record { inner = λ k n at. absurd cc; once = λ j k n at of. absurd cc }

pub reduced-push : (nodes : List Node) (n : Node) → IsReduced nodes → branches_fit nodes n ≡ true
    → is_among nodes n ≡ false → IsReduced (nodes ++ n ∷ [])
reduced-push nodes n r fits new = record {
  inner = λ k m at. elim (get-push nodes n k m at) [
    | inl old ↦ inner-push nodes n k m (slice_get_within nodes k m old) (r.inner k m old)
    | inr last ↦
        let own = inner-new nodes n fits in
        let there : IsInner (nodes ++ n ∷ []) k n = subst (λ (j : ℕ). IsInner (nodes ++ n ∷ []) j n) (sym last.0) own in
        subst (IsInner (nodes ++ n ∷ []) k) last.1 there
  ];
  once = λ j k m at of. elim (get-push nodes n j m at) [
    | inl old ↦ elim (get-push nodes n k m of) [
      | inl also ↦ r.once j k m old also
      | inr last ↦ absurd (false≢true (sym new ∙ among_at nodes j n (old ∙ ap Some (sym last.1))))
    ]
    | inr last ↦ elim (get-push nodes n k m of) [
      | inl old ↦ absurd (false≢true (sym new ∙ among_at nodes k n (old ∙ ap Some (sym last.1))))
      | inr also ↦ omega (arith, last.0, also.0)
    ]
  ];
}
