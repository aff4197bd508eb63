-- The joint cofactors of three nodes are at most as many as the nodes below each of three that determine them,
-- multiplied.
use Rattle.std.proofs.Common.{◌≡◌, ℕ, zero, suc, ◌+◌, ◌*◌, ◌<◌, ◌≤◌, List, [], ◌∷◌, ◌++◌, length, arith}
use Rattle.std.proofs.Common.{refl, ap, sym, subst, ◌∙◌}
use Rattle.std.specs.Prelude.{Bool, true, false, slice_get, Some}
use Rattle.std.proofs.Math.Nat.{suc-mul, zero-mul}
use Rattle.std.proofs.lemmas.List.{length-append}
use Rattle.std.proofs.lemmas.Nat.{mul-le}
use Rattle.std.proofs.lemmas.Option.{same_Some, slice_get_within}
use Rattle.mw_term.specs.Assigned.{Given}
use Rattle.mw_term.specs.Cofactors.{Variable, value_of, is_before, with_fixed, left_of, AreSame, IsCofactor}
use Rattle.mw_term.specs.Cofactors.{HasAtMostCofactors}
use Rattle.mw_term.specs.Functions as functions
use Rattle.mw_dd.specs.declared.nodes.Node.{Node}
use Rattle.mw_dd.specs.declared.nodes.Triple.{Triple}
use Rattle.mw_dd.specs.Bounds.{Has, AreBelow, AreFew, AreAlike, Determine}
use Rattle.mw_dd.specs.Nodes.{value_at, IsFrom, IsReduced}
use Rattle.mw_dd.specs.Steps.{meaning}
use Rattle.mw_dd.proofs.Cofactors.{at_most_numbers}
use Rattle.mw_dd.proofs.From.{NodeCase, is_false, is_true, is_node, place_of, from_node, same_fixed, fixed_before}
use Rattle.mw_dd.proofs.Values.{value-zero, value-one, value-high, value-low}

-- ---- what is left of a node is a node below it

module _ (nodes : List Node) (r : IsReduced nodes) (whole : ℕ) (found : List ℕ) (below : AreBelow nodes whole found)
    (place : Variable) (fixed : Given) where
  abbrev LeavesOne : ℕ → Type 0
  LeavesOne x = (y : ℕ) × Has found y
      × ((given : Given) → value_at (with_fixed place fixed given) nodes x ≡ value_at given nodes y)

  node_case : (bound x k : ℕ) (n : Node) → x < suc bound → (has : Has found x) → x ≡ k + 2 → slice_get nodes k ≡ Some n
      → ((y : ℕ) → y < bound → Has found y → LeavesOne y) → (before value : Bool)
      → is_before n.variable place ≡ before → value_of n.variable fixed ≡ value → LeavesOne x
  node_case bound x k n h has e at ih false value later is =
      let there = below.there has.0 x has.1 in
      let from : IsFrom nodes place x = subst (IsFrom nodes place) (sym e) (from_node nodes place k n at later) in
      (x, has, λ given. same_fixed nodes r place fixed given x there from)
  node_case bound x k n h has e at ih true true before is =
      let own = r.inner k n at in
      let both = below.branches has.0 x has.1 k n e at in
      let one = ih n.high (omega (arith, own.high, e, h)) both.1 in (
        one.0,
        one.1,
        λ given. ap (value_at (with_fixed place fixed given) nodes) e
            ∙ value-high (with_fixed place fixed given) nodes k n at own.low own.high
            (fixed_before place n.variable fixed given before ∙ is) ∙ one.2 given,
      )
  node_case bound x k n h has e at ih true false before is =
      let own = r.inner k n at in
      let both = below.branches has.0 x has.1 k n e at in
      let one = ih n.low (omega (arith, own.low, e, h)) both.0 in (
        one.0,
        one.1,
        λ given. ap (value_at (with_fixed place fixed given) nodes) e
            ∙ value-low (with_fixed place fixed given) nodes k n at own.low own.high
            (fixed_before place n.variable fixed given before ∙ is) ∙ one.2 given,
      )

  each_case : (bound x : ℕ) → x < suc bound → (has : Has found x)
      → ((y : ℕ) → y < bound → Has found y → LeavesOne y) → NodeCase nodes x → LeavesOne x
  each_case bound x h has ih (is_false e) = (
    x,
    has,
    λ given. rw e (value-zero (with_fixed place fixed given) nodes ∙ sym (value-zero given nodes)),
  )
  each_case bound x h has ih (is_true e) = (
    x,
    has,
    λ given. rw e (value-one (with_fixed place fixed given) nodes ∙ sym (value-one given nodes)),
  )
  each_case bound x h has ih (is_node k n e at) =
      node_case bound x k n h has e at ih (is_before n.variable place) (value_of n.variable fixed) refl refl

  leaves : (bound x : ℕ) → x < bound → Has found x → LeavesOne x
  leaves zero x h has = absurd (omega (arith, h))
  leaves (suc bound) x h has =
      each_case bound x h has (leaves bound) (place_of nodes x (below.there has.0 x has.1))

  leaves_one : LeavesOne whole
  leaves_one = leaves (suc whole) whole (omega arith) below.itself

-- ---- all triples of three lists

abbrev triple : (x y z : ℕ) → Triple
triple x y z = record { f = x; g = y; h = z }

abbrev HasTriple : List Triple → Triple → Type 0
HasTriple triples t = (i : ℕ) × (slice_get triples i ≡ Some t)

abbrev row : (x y : ℕ) → List ℕ → List Triple
row x y [] = []
row x y (z ∷ zs) = triple x y z ∷ row x y zs

abbrev plane : (x : ℕ) → (ys zs : List ℕ) → List Triple
plane x [] zs = []
plane x (y ∷ ys) zs = row x y zs ++ plane x ys zs

abbrev box : (xs ys zs : List ℕ) → List Triple
box [] ys zs = []
box (x ∷ xs) ys zs = plane x ys zs ++ box xs ys zs

length-row : (x y : ℕ) (zs : List ℕ) → length (row x y zs) ≡ length zs
length-row x y [] = refl
length-row x y (z ∷ zs) = ap suc (length-row x y zs)

length-plane : (x : ℕ) (ys zs : List ℕ) → length (plane x ys zs) ≡ length ys * length zs
length-plane x [] zs = sym (zero-mul (length zs))
length-plane x (y ∷ ys) zs =
    omega (
      arith,
      length-append (row x y zs) (plane x ys zs),
      length-row x y zs,
      length-plane x ys zs,
      suc-mul (length ys) (length zs),
    )

length-box : (xs ys zs : List ℕ) → length (box xs ys zs) ≡ length xs * (length ys * length zs)
length-box [] ys zs = sym (zero-mul (length ys * length zs))
length-box (x ∷ xs) ys zs =
    omega (
      arith,
      length-append (plane x ys zs) (box xs ys zs),
      length-plane x ys zs,
      length-box xs ys zs,
      suc-mul (length xs) (length ys * length zs),
    )

nothing : (t : Triple) (i : ℕ) → slice_get {X = Triple} [] i ≡ Some t → ⊥
nothing t i at = cc

no_number : (n i : ℕ) → slice_get {X = ℕ} [] i ≡ Some n → ⊥
no_number n i at = cc

in-left : (first second : List Triple) (t : Triple) (i : ℕ) → slice_get first i ≡ Some t
    → HasTriple (first ++ second) t
in-left [] second t i at = absurd (nothing t i at)
in-left (u ∷ first) second t zero at = (0, at)
in-left (u ∷ first) second t (suc i) at = let rest = in-left first second t i at in (suc rest.0, rest.1)

in-right : (first second : List Triple) (t : Triple) → HasTriple second t → HasTriple (first ++ second) t
in-right [] second t has = has
in-right (u ∷ first) second t has = let rest = in-right first second t has in (suc rest.0, rest.1)

row-has : (x y z : ℕ) (zs : List ℕ) (i : ℕ) → slice_get zs i ≡ Some z → HasTriple (row x y zs) (triple x y z)
row-has x y z [] i at = absurd (no_number z i at)
row-has x y z (w ∷ zs) zero at = (0, ap (λ (v : ℕ). Some (triple x y v)) (same_Some w z at))
row-has x y z (w ∷ zs) (suc i) at = let rest = row-has x y z zs i at in (suc rest.0, rest.1)

plane-has : (x y z : ℕ) (ys zs : List ℕ) (i : ℕ) → slice_get ys i ≡ Some y → Has zs z
    → HasTriple (plane x ys zs) (triple x y z)
plane-has x y z [] zs i at has = absurd (no_number y i at)
plane-has x y z (w ∷ ys) zs zero at has =
    let own = row-has x y z zs has.0 has.1 in
    subst (λ (v : ℕ). HasTriple (row x v zs ++ plane x ys zs) (triple x y z)) (sym (same_Some w y at))
    (in-left (row x y zs) (plane x ys zs) (triple x y z) own.0 own.1)
plane-has x y z (w ∷ ys) zs (suc i) at has =
    in-right (row x w zs) (plane x ys zs) (triple x y z) (plane-has x y z ys zs i at has)

box-has : (x y z : ℕ) (xs ys zs : List ℕ) (i : ℕ) → slice_get xs i ≡ Some x → Has ys y → Has zs z
    → HasTriple (box xs ys zs) (triple x y z)
box-has x y z [] ys zs i at ready has = absurd (no_number x i at)
box-has x y z (w ∷ xs) ys zs zero at ready has =
    let own = plane-has x y z ys zs ready.0 ready.1 has in
    subst (λ (v : ℕ). HasTriple (plane v ys zs ++ box xs ys zs) (triple x y z)) (sym (same_Some w x at))
    (in-left (plane x ys zs) (box xs ys zs) (triple x y z) own.0 own.1)
box-has x y z (w ∷ xs) ys zs (suc i) at ready has =
    in-right (plane w ys zs) (box xs ys zs) (triple x y z) (box-has x y z xs ys zs i at ready has)

-- ---- the bound

module _ (nodes : List Node) (r : IsReduced nodes) (t whole : Triple) (determine : Determine nodes t whole)
    (triples : List Triple) where
  -- a joint cofactor of three nodes, and the place of what is left there of three that determine them
  pub record IsAt (u : functions.Triple) (i : ℕ) : Type 0 where
    pub is : IsCofactor (meaning nodes whole) u
    pub own : Triple
    pub at : slice_get triples i ≡ Some own
    pub left : AreSame (left_of (meaning nodes t) is.place is.fixed) (meaning nodes own)

  -- where these are at one place, the joint cofactors are one
  one_at : (u w : functions.Triple) (i : ℕ) → IsAt u i → IsAt w i → AreSame u w
  one_at u w i one other =
      let own = same_Some other.own one.own (sym other.at ∙ one.at) in
      let left = subst
      (λ (s : Triple). AreSame (left_of (meaning nodes t) other.is.place other.is.fixed) (meaning nodes s))
      own other.left in
      let alike : (given : Given)
      → AreAlike nodes (with_fixed one.is.place one.is.fixed given) (with_fixed other.is.place other.is.fixed given)
      whole = λ given. determine _ _ (record {
        f = one.left.f given ∙ sym (left.f given);
        g = one.left.g given ∙ sym (left.g given);
        h = one.left.h given ∙ sym (left.h given);
      }) in
      record {
        f = λ given. one.is.left.f given ∙ (alike given).f ∙ sym (other.is.left.f given);
        g = λ given. one.is.left.g given ∙ (alike given).g ∙ sym (other.is.left.g given);
        h = λ given. one.is.left.h given ∙ (alike given).h ∙ sym (other.is.left.h given);
      }

module _ (nodes : List Node) (r : IsReduced nodes) (t whole : Triple) (determine : Determine nodes t whole)
    (xs ys zs : List ℕ) (f : AreBelow nodes t.f xs) (g : AreBelow nodes t.g ys) (h : AreBelow nodes t.h zs) where
  place_in_box : (u : functions.Triple) → IsCofactor (meaning nodes whole) u
      → (i : ℕ) × IsAt nodes r t whole determine (box xs ys zs) u i
  place_in_box u is =
      let x = leaves_one nodes r t.f xs f is.place is.fixed in
      let y = leaves_one nodes r t.g ys g is.place is.fixed in
      let z = leaves_one nodes r t.h zs h is.place is.fixed in
      let at = box-has x.0 y.0 z.0 xs ys zs x.1.0 x.1.1 y.1 z.1 in (
        at.0,
        record {
          is = is;
          own = triple x.0 y.0 z.0;
          at = at.1;
          left = record { f = x.2; g = y.2; h = z.2 };
        },
      )

  most_in_box : (n : ℕ) → length (box xs ys zs) ≤ n → HasAtMostCofactors (meaning nodes whole) n
  most_in_box n few =
      let triples = box xs ys zs in
      at_most_numbers (IsAt nodes r t whole determine triples) (one_at nodes r t whole determine triples)
      (meaning nodes whole) n
      (λ u i is. let within = slice_get_within triples i is.own is.at in omega (arith, within, few)) place_in_box

-- the joint cofactors are at most as many as the product of three bounds of nodes that tell theirs
pub product-bound : (nodes : List Node) → IsReduced nodes → (t whole : Triple) (budget : ℕ) → AreFew nodes t budget
    → Determine nodes t whole → HasAtMostCofactors (meaning nodes whole) budget
product-bound nodes r t whole budget are determine =
    let inner = mul-le (length are.g.0) (length are.h.0) are.of_g are.of_h are.g.1 are.h.1 in
    let outer =
    mul-le (length are.f.0) (length are.g.0 * length are.h.0) are.of_f (are.of_g * are.of_h) are.f.1 inner in
    most_in_box nodes r t whole determine are.f.0 are.g.0 are.h.0 are.f.2 are.g.2 are.h.2 budget
    (omega (arith, length-box are.f.0 are.g.0 are.h.0, outer, are.few))
