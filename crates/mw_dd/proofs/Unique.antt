-- Equal functions have equal nodes.
use Rattle.std.proofs.Common.{◌≡◌, inl, inr, ℕ, suc, zero, ◌+◌, ◌<◌, List, arith, refl, ap, ◌∙◌, sym}
use Rattle.std.specs.Prelude.{true, false, slice_get, Some}
use Rattle.std.proofs.lemmas.Bool.{false≢true, true≢false}
use Rattle.std.proofs.lemmas.Option.{slice_get_within}
use Rattle.mw_term.specs.Assigned.{Given}
use Rattle.mw_term.specs.Cofactors.{Variable, with_fixed, Agree}
use Rattle.mw_dd.specs.declared.nodes.Node.{Node}
use Rattle.mw_dd.specs.Nodes.{value_at, function_of, IsDd, IsFrom, IsReduced, after}
use Rattle.mw_dd.specs.Diagrams.{IsCanonical}
use Rattle.mw_dd.proofs.Order.{later_after, order_cases}
use Rattle.mw_dd.proofs.Values.{value-high, value-low, value-zero, value-one}
use Rattle.mw_dd.proofs.From.{NodeCase, is_false, is_true, is_node, place_of, from_constant, from_node, same_fixed}
use Rattle.mw_dd.proofs.From.{only}
use Rattle.mw_dd.proofs.From.{fixed_only}

-- a node by its parts
same_node : (n m : Node) → n.variable ≡ m.variable → n.low ≡ m.low → n.high ≡ m.high → n ≡ m
same_node n m v l h =
    let made : Variable × ℕ × ℕ → Node = λ p. record { variable = p.0; low = p.1; high = p.2 } in
    let parts : ◌≡◌ {A = Variable × ℕ × ℕ} (n.variable, n.low, n.high) (m.variable, m.low, m.high) =
    rw (v, l, h) refl in
    ap made parts

module _ (nodes : List Node) (r : IsReduced nodes) where
  abbrev SameFunction : ℕ → ℕ → Type 0
  SameFunction x y = Agree (function_of nodes x) (function_of nodes y)

  -- a branch's value is the node's where all variables up to its own are fixed
  pub high_is : (k : ℕ) (n : Node) (given : Given) → slice_get nodes k ≡ Some n
      → value_at (with_fixed (after n.variable) (only n.variable true) given) nodes (k + 2)
      ≡ value_at given nodes n.high
  high_is k n given at =
      let i = r.inner k n at in
      let within = slice_get_within nodes k n at in
      value-high _ nodes k n at i.low i.high (fixed_only n.variable true given)
      ∙ same_fixed nodes r (after n.variable) (only n.variable true) given n.high
      (omega (arith, i.high, within)) i.high_later

  pub low_is : (k : ℕ) (n : Node) (given : Given) → slice_get nodes k ≡ Some n
      → value_at (with_fixed (after n.variable) (only n.variable false) given) nodes (k + 2)
      ≡ value_at given nodes n.low
  low_is k n given at =
      let i = r.inner k n at in
      let within = slice_get_within nodes k n at in
      value-low _ nodes k n at i.low i.high (fixed_only n.variable false given)
      ∙ same_fixed nodes r (after n.variable) (only n.variable false) given n.low
      (omega (arith, i.low, within)) i.low_later

  abbrev OneBelow : ℕ → Type 0
  OneBelow bound = (x y : ℕ) → x < bound → y < bound → IsDd nodes x → IsDd nodes y → SameFunction x y → x ≡ y

  -- a node has no function of later variables alone
  not_later : (bound k y : ℕ) (n : Node) → OneBelow bound → k + 2 < suc bound → slice_get nodes k ≡ Some n
      → IsDd nodes y → IsFrom nodes (after n.variable) y → SameFunction (k + 2) y → ⊥
  not_later bound k y n ih h at there from same =
      let i = r.inner k n at in
      let within = slice_get_within nodes k n at in
      i.differ (ih n.low n.high (omega (arith, i.low, h)) (omega (arith, i.high, h)) (omega (arith, i.low, within))
      (omega (arith, i.high, within))
      (λ given. sym (low_is k n given at)
      ∙ same (with_fixed (after n.variable) (only n.variable false) given)
      ∙ same_fixed nodes r (after n.variable) (only n.variable false) given y there from
      ∙ sym (same_fixed nodes r (after n.variable) (only n.variable true) given y there from)
      ∙ sym (same (with_fixed (after n.variable) (only n.variable true) given))
      ∙ high_is k n given at))

  two_nodes : (bound k j : ℕ) (n m : Node) → OneBelow bound → k + 2 < suc bound → j + 2 < suc bound
      → slice_get nodes k ≡ Some n → slice_get nodes j ≡ Some m → n.variable ≡ m.variable → SameFunction (k + 2) (j + 2)
      → k ≡ j
  two_nodes bound k j n m ih h g at of e same =
      let a = r.inner k n at in
      let b = r.inner j m of in
      let p = slice_get_within nodes k n at in
      let q = slice_get_within nodes j m of in
      let low : n.low ≡ m.low =
      ih n.low m.low (omega (arith, a.low, h)) (omega (arith, b.low, g)) (omega (arith, a.low, p))
      (omega (arith, b.low, q))
      (λ given. sym (low_is k n given at)
      ∙ same (with_fixed (after n.variable) (only n.variable false) given)
      ∙ ap (λ (v : Variable). value_at (with_fixed (after v) (only v false) given) nodes (j + 2)) e
      ∙ low_is j m given of) in
      let high : n.high ≡ m.high = ih n.high m.high (omega (arith, a.high, h)) (omega (arith, b.high, g))
      (omega (arith, a.high, p)) (omega (arith, b.high, q))
      (λ given. sym (high_is k n given at)
      ∙ same (with_fixed (after n.variable) (only n.variable true) given)
      ∙ ap (λ (v : Variable). value_at (with_fixed (after v) (only v true) given) nodes (j + 2)) e
      ∙ high_is j m given of) in
      r.once k j m (at ∙ ap Some (same_node n m e low high)) of

  pub nowhere : Given
  nowhere = λ word. 0

  one_at : (bound x y : ℕ) → OneBelow bound → x < suc bound → y < suc bound → IsDd nodes x → IsDd nodes y
      → SameFunction x y → NodeCase nodes x → NodeCase nodes y → x ≡ y
  one_at bound x y ih h g t u same (is_false e) (is_false f) = omega (arith, e, f)
  one_at bound x y ih h g t u same (is_true e) (is_true f) = omega (arith, e, f)
  one_at bound x y ih h g t u same (is_false e) (is_true f) =
      absurd (false≢true (sym (value-zero nowhere nodes) ∙ (rw (e, f) at (same nowhere)) ∙ value-one nowhere nodes))
  one_at bound x y ih h g t u same (is_true e) (is_false f) =
      absurd (true≢false (sym (value-one nowhere nodes) ∙ (rw (e, f) at (same nowhere)) ∙ value-zero nowhere nodes))
  one_at bound x y ih h g t u same (is_node k n e at) (is_false f) =
      absurd (not_later bound k y n ih (rw e at h) at u (from_constant nodes (after n.variable) y (omega (arith, f)))
      (λ given. rw e at (same given)))
  one_at bound x y ih h g t u same (is_node k n e at) (is_true f) =
      absurd (not_later bound k y n ih (rw e at h) at u (from_constant nodes (after n.variable) y (omega (arith, f)))
      (λ given. rw e at (same given)))
  one_at bound x y ih h g t u same (is_false e) (is_node k n f at) =
      absurd (not_later bound k x n ih (rw f at g) at t (from_constant nodes (after n.variable) x (omega (arith, e)))
      (λ given. sym (rw f at (same given))))
  one_at bound x y ih h g t u same (is_true e) (is_node k n f at) =
      absurd (not_later bound k x n ih (rw f at g) at t (from_constant nodes (after n.variable) x (omega (arith, e)))
      (λ given. sym (rw f at (same given))))
  one_at bound x y ih h g t u same (is_node k n e at) (is_node l m f of) =
      let s : SameFunction (k + 2) (l + 2) = λ given. rw (e, f) at (same given) in
      let p : k + 2 < suc bound = rw e at h in
      let q : l + 2 < suc bound = rw f at g in
      elim (order_cases n.variable m.variable) [
        | inl one ↦ let z = two_nodes bound k l n m ih p q at of one s in omega (arith, z, e, f)
        | inr other ↦ elim other [
          | inl less ↦ absurd (not_later bound k (l + 2) n ih p at (rw f at u)
              (from_node nodes (after n.variable) l m of (later_after n.variable m.variable less)) s)
          | inr more ↦ absurd (not_later bound l (k + 2) m ih q of (rw e at t)
              (from_node nodes (after m.variable) k n at (later_after m.variable n.variable more))
              (λ given. sym (s given)))
        ]
      ]

  one_below : (bound : ℕ) → OneBelow bound
  one_below zero x y h g t u same = absurd (omega (arith, h))
  one_below (suc bound) x y h g t u same =
      one_at bound x y (one_below bound) h g t u same (place_of nodes x t) (place_of nodes y u)

  pub canonical : IsCanonical nodes
  canonical x y t u same = one_below (suc (x + y)) x y (omega arith) (omega arith) t u same
