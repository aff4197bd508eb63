-- Equal functions have equal nodes.
use Rattle.std.proofs.Common.{◌≡◌, inl, inr, ℕ, suc, zero, ◌+◌, ◌<◌, List, arith, refl, ap, ◌∙◌, sym}
use Rattle.std.specs.Prelude.{true, false, slice_get, Some}
use Rattle.std.proofs.lemmas.Bool.{false≢true, true≢false}
use Rattle.std.proofs.lemmas.Option.{slice_get_within}
use Rattle.mw_term.specs.Assigned.{Given}
use Rattle.mw_term.specs.Cofactors.{Variable, with_fixed, Agree}
use Rattle.mw_recheck.specs.declared.line.Node.{Node}
use Rattle.mw_recheck.specs.Laws.{IsCanonical}
use Rattle.mw_recheck.specs.Nodes.{variable_of, value_at, function_of, count}
use Rattle.mw_recheck.proofs.Order.{after, later_after, order_cases}
use Rattle.mw_recheck.proofs.Reduced.{IsFrom, IsReduced, NodeCase, is_false, is_true, is_inner, case_of, from_constant}
use Rattle.mw_recheck.proofs.Reduced.{from_node, same_fixed, only, fixed_only}
use Rattle.mw_recheck.proofs.Values.{value-high, value-low, value-zero, value-one}

-- a node by its parts
same_node : (n m : Node) → variable_of n ≡ variable_of m → n.low ≡ m.low → n.high ≡ m.high → n ≡ m
same_node n m v l h =
    let made : Variable × ℕ × ℕ → Node =
    λ p. record { word = p.0.word; bit = p.0.bit; high = p.2; low = p.1 } in
    let parts : ◌≡◌ {A = Variable × ℕ × ℕ} (variable_of n, n.low, n.high) (variable_of m, m.low, m.high) =
    rw (v, l, h) refl in
    ap made parts

module _ (nodes : List Node) (r : IsReduced nodes) where
  -- an assignment in which a node's variable is set, and those before it
  abbrev set : Node → Given → Given
  set n = with_fixed (after (variable_of n)) (only (variable_of n) true)

  abbrev unset : Node → Given → Given
  unset n = with_fixed (after (variable_of n)) (only (variable_of n) false)

  -- a branch's value is the node's there
  high_is : (k : ℕ) (n : Node) (given : Given) → slice_get nodes k ≡ Some n
      → value_at (set n given) nodes (k + 2) ≡ value_at given nodes n.high
  high_is k n given at =
      let i = r.inner k n at in
      let within = slice_get_within nodes k n at in
      value-high _ nodes k n at i.low i.high (fixed_only (variable_of n) true given)
      ∙ same_fixed nodes r (after (variable_of n)) (only (variable_of n) true) given n.high
      (omega (arith, i.high, within)) i.high_later

  low_is : (k : ℕ) (n : Node) (given : Given) → slice_get nodes k ≡ Some n
      → value_at (unset n given) nodes (k + 2) ≡ value_at given nodes n.low
  low_is k n given at =
      let i = r.inner k n at in
      let within = slice_get_within nodes k n at in
      value-low _ nodes k n at i.low i.high (fixed_only (variable_of n) false given)
      ∙ same_fixed nodes r (after (variable_of n)) (only (variable_of n) false) given n.low
      (omega (arith, i.low, within)) i.low_later

  abbrev SameFunction : ℕ → ℕ → Type 0
  SameFunction x y = Agree (function_of nodes x) (function_of nodes y)

  abbrev OneBelow : ℕ → Type 0
  OneBelow bound =
      (x y : ℕ) → x < bound → y < bound → x < count nodes → y < count nodes → SameFunction x y → x ≡ y

  -- a node has no function of later variables alone
  not_later : (bound k y : ℕ) (n : Node) → OneBelow bound → k + 2 < suc bound → slice_get nodes k ≡ Some n
      → y < count nodes → IsFrom nodes (after (variable_of n)) y → SameFunction (k + 2) y → ⊥
  not_later bound k y n ih h at there from same =
      let i = r.inner k n at in
      let within = slice_get_within nodes k n at in
      let v = variable_of n in
      i.differ (ih n.low n.high (omega (arith, i.low, h)) (omega (arith, i.high, h)) (omega (arith, i.low, within))
      (omega (arith, i.high, within))
      (λ given. sym (low_is k n given at)
      ∙ same (unset n given)
      ∙ same_fixed nodes r (after v) (only v false) given y there from
      ∙ sym (same_fixed nodes r (after v) (only v true) given y there from)
      ∙ sym (same (set n given))
      ∙ high_is k n given at))

  two_nodes : (bound k j : ℕ) (n m : Node) → OneBelow bound → k + 2 < suc bound → j + 2 < suc bound
      → slice_get nodes k ≡ Some n → slice_get nodes j ≡ Some m → variable_of n ≡ variable_of m
      → SameFunction (k + 2) (j + 2) → k ≡ j
  two_nodes bound k j n m ih h g at of e same =
      let a = r.inner k n at in
      let b = r.inner j m of in
      let p = slice_get_within nodes k n at in
      let q = slice_get_within nodes j m of in
      let low : n.low ≡ m.low =
      ih n.low m.low (omega (arith, a.low, h)) (omega (arith, b.low, g)) (omega (arith, a.low, p))
      (omega (arith, b.low, q))
      (λ given. sym (low_is k n given at)
      ∙ same (unset n given)
      ∙ ap (λ (v : Variable). value_at (with_fixed (after v) (only v false) given) nodes (j + 2)) e
      ∙ low_is j m given of) in
      let high : n.high ≡ m.high = ih n.high m.high (omega (arith, a.high, h)) (omega (arith, b.high, g))
      (omega (arith, a.high, p)) (omega (arith, b.high, q))
      (λ given. sym (high_is k n given at)
      ∙ same (set n given)
      ∙ ap (λ (v : Variable). value_at (with_fixed (after v) (only v true) given) nodes (j + 2)) e
      ∙ high_is j m given of) in
      r.once k j m (at ∙ ap Some (same_node n m e low high)) of

  nowhere : Given
  nowhere = λ word. 0

  one_at : (bound x y : ℕ) → OneBelow bound → x < suc bound → y < suc bound → x < count nodes → y < count nodes
      → SameFunction x y → NodeCase nodes x → NodeCase nodes y → x ≡ y
  one_at bound x y ih h g t u same (is_false e) (is_false f) = omega (arith, e, f)
  one_at bound x y ih h g t u same (is_true e) (is_true f) = omega (arith, e, f)
  one_at bound x y ih h g t u same (is_false e) (is_true f) =
      absurd (false≢true (sym (value-zero nowhere nodes) ∙ (rw (e, f) at (same nowhere)) ∙ value-one nowhere nodes))
  one_at bound x y ih h g t u same (is_true e) (is_false f) =
      absurd (true≢false (sym (value-one nowhere nodes) ∙ (rw (e, f) at (same nowhere)) ∙ value-zero nowhere nodes))
  one_at bound x y ih h g t u same (is_inner k n e at) (is_false f) =
      absurd (not_later bound k y n ih (rw e at h) at u
      (from_constant nodes (after (variable_of n)) y (omega (arith, f)))
      (λ given. rw e at (same given)))
  one_at bound x y ih h g t u same (is_inner k n e at) (is_true f) =
      absurd (not_later bound k y n ih (rw e at h) at u
      (from_constant nodes (after (variable_of n)) y (omega (arith, f)))
      (λ given. rw e at (same given)))
  one_at bound x y ih h g t u same (is_false e) (is_inner k n f at) =
      absurd (not_later bound k x n ih (rw f at g) at t
      (from_constant nodes (after (variable_of n)) x (omega (arith, e)))
      (λ given. sym (rw f at (same given))))
  one_at bound x y ih h g t u same (is_true e) (is_inner k n f at) =
      absurd (not_later bound k x n ih (rw f at g) at t
      (from_constant nodes (after (variable_of n)) x (omega (arith, e)))
      (λ given. sym (rw f at (same given))))
  one_at bound x y ih h g t u same (is_inner k n e at) (is_inner l m f of) =
      let s : SameFunction (k + 2) (l + 2) = λ given. rw (e, f) at (same given) in
      let p : k + 2 < suc bound = rw e at h in
      let q : l + 2 < suc bound = rw f at g in
      elim (order_cases (variable_of n) (variable_of m)) [
        | inl one ↦ let z = two_nodes bound k l n m ih p q at of one s in omega (arith, z, e, f)
        | inr other ↦ elim other [
          | inl less ↦ absurd (not_later bound k (l + 2) n ih p at (rw f at u)
              (from_node nodes (after (variable_of n)) l m of (later_after (variable_of n) (variable_of m) less)) s)
          | inr more ↦ absurd (not_later bound l (k + 2) m ih q of (rw e at t)
              (from_node nodes (after (variable_of m)) k n at (later_after (variable_of m) (variable_of n) more))
              (λ given. sym (s given)))
        ]
      ]

  one_below : (bound : ℕ) → OneBelow bound
  one_below zero x y h g t u same = absurd (omega (arith, h))
  one_below (suc bound) x y h g t u same =
      one_at bound x y (one_below bound) h g t u same (case_of nodes x t) (case_of nodes y u)

  pub canonical : IsCanonical nodes
  canonical x y t u same = one_below (suc (x + y)) x y (omega arith) (omega arith) t u same
