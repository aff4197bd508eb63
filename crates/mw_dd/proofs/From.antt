-- Nodes whose variables are not before a place.
use Rattle.std.proofs.Common.{◌≡◌, inl, inr, ℕ, suc, zero, ◌+◌, ◌<◌, ◌^◌, List, arith}
use Rattle.std.proofs.Common.{refl, ap, ◌∙◌, sym, subst}
use Rattle.std.specs.Prelude.{Bool, true, false, if◌then◌else◌, ◌==◌, slice_get, Some}
use Rattle.std.proofs.lemmas.Nat.Bits.{bit_at-zero, bit_at-pow_same}
use Rattle.std.proofs.lemmas.Option.{same_Some, slice_get_cases}
use Rattle.mw_term.specs.Assigned.{Given}
use Rattle.mw_term.specs.Cofactors.{Variable, value_of, is_before, with_fixed}
use Rattle.mw_term.proofs.Fixed.{fixed_are_before}
use Rattle.mw_dd.specs.declared.nodes.Node.{Node}
use Rattle.mw_dd.specs.Nodes.{value_at, IsDd, IsFrom, IsReduced, after}
use Rattle.mw_dd.specs.Steps.{Grows}
use Rattle.mw_dd.proofs.Order.{not_before-trans, after_later, before_after}
use Rattle.mw_dd.proofs.Values.{value-node, value-zero, value-one}

-- a node is a constant, or stands in the list
pub data NodeCase (nodes : List Node) (x : ℕ) : Type 0 where
  is_false : x ≡ 0 → NodeCase nodes x
  is_true : x ≡ 1 → NodeCase nodes x
  is_node : (k : ℕ) (n : Node) → x ≡ k + 2 → slice_get nodes k ≡ Some n → NodeCase nodes x

pub place_of : (nodes : List Node) (x : ℕ) → IsDd nodes x → NodeCase nodes x
place_of nodes zero h = is_false refl
place_of nodes (suc zero) h = is_true refl
place_of nodes (suc (suc k)) h = elim (slice_get_cases nodes k).1 [
  | inl there ↦ is_node k there.0 (omega arith) there.2
  | inr past ↦ absurd (omega (arith, past.0))
]

-- the node at a place is one
pub one_node : (nodes : List Node) (j k : ℕ) (n m : Node) → j ≡ k → slice_get nodes j ≡ Some n
    → slice_get nodes k ≡ Some m → n ≡ m
one_node nodes j k n m same at of = same_Some n m (sym at ∙ ap (slice_get nodes) same ∙ of)

pub from_constant : (nodes : List Node) (place : Variable) (x : ℕ) → x < 2 → IsFrom nodes place x
from_constant nodes place x h k n e at = absurd (omega (arith, h, e))

pub from_node : (nodes : List Node) (place : Variable) (k : ℕ) (n : Node) → slice_get nodes k ≡ Some n
    → is_before n.variable place ≡ false → IsFrom nodes place (k + 2)
from_node nodes place k n at later j m e of =
    subst (λ (x : Node). is_before x.variable place ≡ false) (one_node nodes k j n m (omega (arith, e)) at of) later

-- what is from a later place is from an earlier one
pub from-trans : (nodes : List Node) (v place : Variable) (x : ℕ) → IsFrom nodes v x → is_before v place ≡ false
    → IsFrom nodes place x
from-trans nodes v place x from later k n e at = not_before-trans n.variable v place (from k n e at) later

pub from-after : (nodes : List Node) (v place : Variable) (x : ℕ) → IsFrom nodes (after v) x
    → is_before v place ≡ false → IsFrom nodes place x
from-after nodes v place x from later = from-trans nodes (after v) place x from (after_later v place later)

-- nodes stay where they are from
pub from-grows : (old new : List Node) (place : Variable) (x : ℕ) → Grows old new → IsDd old x
    → IsFrom old place x → IsFrom new place x
from-grows old new place x grows there from k n e at =
    elim (slice_get_cases old k).1 [
      | inl found ↦
          let same = one_node new k k found.0 n refl (grows.stay k found.0 found.2) at in
          subst (λ (x : Node). is_before x.variable place ≡ false) same (from k found.0 e found.2)
      | inr past ↦ absurd (omega (arith, past.0, e, there))
    ]

pub from-shrinks : (old new : List Node) (place : Variable) (x : ℕ) → Grows old new → IsFrom new place x
    → IsFrom old place x
from-shrinks old new place x grows from k n e at = from k n e (grows.stay k n at)

-- ---- assignments that give the same from a place on

abbrev SameFrom : Variable → (a b : Given) → Type 0
SameFrom place a b = (u : Variable) → is_before u place ≡ false → value_of u a ≡ value_of u b

module _ (nodes : List Node) (r : IsReduced nodes) (place : Variable) (a b : Given) (same : SameFrom place a b) where
  abbrev Alike : ℕ → Type 0
  Alike bound = (x : ℕ) → x < bound → IsDd nodes x → IsFrom nodes place x → value_at a nodes x ≡ value_at b nodes x

  alike_at : (bound x : ℕ) → Alike bound → x < suc bound → IsDd nodes x → IsFrom nodes place x → NodeCase nodes x
      → value_at a nodes x ≡ value_at b nodes x
  alike_at bound x ih h t from (is_false e) = rw e (value-zero a nodes ∙ sym (value-zero b nodes))
  alike_at bound x ih h t from (is_true e) = rw e (value-one a nodes ∙ sym (value-one b nodes))
  alike_at bound x ih h t from (is_node k n e at) =
      let i = r.inner k n at in
      let own = from k n e at in
      let low = ih n.low (omega (arith, i.low, e, h)) (omega (arith, i.low, e, t))
      (from-after nodes n.variable place n.low i.low_later own) in
      let high = ih n.high (omega (arith, i.high, e, h)) (omega (arith, i.high, e, t))
      (from-after nodes n.variable place n.high i.high_later own) in
      rw (
        e,
        value-node a nodes k n at i.low i.high,
        value-node b nodes k n at i.low i.high,
        same n.variable own,
        low,
        high,
      ) refl

  alike : (bound : ℕ) → Alike bound
  alike zero x h t from = absurd (omega (arith, h))
  alike (suc bound) x h t from = alike_at bound x (alike bound) h t from (place_of nodes x t)

  -- a node from a place on has the same value under both
  pub same_from : (x : ℕ) → IsDd nodes x → IsFrom nodes place x → value_at a nodes x ≡ value_at b nodes x
  same_from x t from = alike (suc x) x (omega arith) t from

-- ---- fixed variables

pub fixed_later : (place u : Variable) (fixed given : Given) → is_before u place ≡ false
    → value_of u (with_fixed place fixed given) ≡ value_of u given
fixed_later place u fixed given later =
    fixed_are_before place u fixed given ∙ ap (λ b. if b then value_of u fixed else value_of u given) later

pub fixed_before : (place u : Variable) (fixed given : Given) → is_before u place ≡ true
    → value_of u (with_fixed place fixed given) ≡ value_of u fixed
fixed_before place u fixed given before =
    fixed_are_before place u fixed given ∙ ap (λ b. if b then value_of u fixed else value_of u given) before

-- a node doesn't see the variables before the place that it is from
pub same_fixed : (nodes : List Node) → IsReduced nodes → (place : Variable) (fixed given : Given) (x : ℕ)
    → IsDd nodes x → IsFrom nodes place x
    → value_at (with_fixed place fixed given) nodes x ≡ value_at given nodes x
same_fixed nodes r place fixed given x =
    same_from nodes r place (with_fixed place fixed given) given (λ u later. fixed_later place u fixed given later) x

-- an assignment that gives a variable this value
abbrev pub only : Variable → Bool → Given
only v b = λ word. if b then 2 ^ v.bit else 0

pub only_is : (v : Variable) (b : Bool) → value_of v (only v b) ≡ b
only_is v true = ap (λ (n : ℕ). n == 1) (bit_at-pow_same v.bit)
only_is v false = ap (λ (n : ℕ). n == 1) (bit_at-zero v.bit)

pub fixed_only : (v : Variable) (b : Bool) (given : Given) → value_of v (with_fixed (after v) (only v b) given) ≡ b
fixed_only v b given = fixed_before (after v) v (only v b) given (before_after v) ∙ only_is v b
