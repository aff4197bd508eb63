-- A node whose function isn't never holds under some assignment.
use Rattle.std.proofs.Common.{◌≡◌, inl, inr, ℕ, suc, zero, ◌+◌, ◌<◌, List, arith, ap, ◌∙◌}
use Rattle.std.specs.Prelude.{false, true, ◌==◌, slice_get, Some}
use Rattle.std.proofs.lemmas.Bool.{cases_eq}
use Rattle.std.proofs.lemmas.Bool.Decides.{nat_tests}
use Rattle.std.proofs.lemmas.Option.{slice_get_within}
use Rattle.mw_term.specs.Assigned.{Given}
use Rattle.mw_term.specs.Cofactors.{with_fixed}
use Rattle.mw_dd.specs.declared.nodes.Node.{Node}
use Rattle.mw_dd.specs.Nodes.{value_at, function_of, IsDd, IsReduced, after}
use Rattle.mw_dd.proofs.Values.{value-one}
use Rattle.mw_dd.proofs.From.{NodeCase, is_false, is_true, is_node, place_of, only}
use Rattle.mw_dd.proofs.Unique.{low_is, high_is, nowhere}
use Rattle.mw_dd.proofs.Walks.{some_number}

module _ (nodes : List Node) (r : IsReduced nodes) where
  abbrev Holds : ℕ → Type 0
  Holds x = (given : Given) × (function_of nodes x given ≡ true)

  -- where a branch holds, its node holds with its own variable set so
  by_low : (k : ℕ) (n : Node) → slice_get nodes k ≡ Some n → Holds n.low → Holds (k + 2)
  by_low k n at low =
      (with_fixed (after n.variable) (only n.variable false) low.0, low_is nodes r k n low.0 at ∙ low.1)

  by_high : (k : ℕ) (n : Node) → slice_get nodes k ≡ Some n → Holds n.high → Holds (k + 2)
  by_high k n at high =
      (with_fixed (after n.variable) (only n.variable true) high.0, high_is nodes r k n high.0 at ∙ high.1)

  abbrev HoldBelow : ℕ → Type 0
  HoldBelow bound = (x : ℕ) → x < bound → IsDd nodes x → 0 < x → Holds x

  -- of a node's branches one isn't never
  node_holds : (bound k : ℕ) (n : Node)
      → HoldBelow bound → k + 2 < suc bound → slice_get nodes k ≡ Some n → Holds (k + 2)
  node_holds bound k n ih h at =
      let i = r.inner k n at in
      let within = slice_get_within nodes k n at in
      elim (cases_eq n.low 0) [
        | inl none ↦
            by_high k n at (ih n.high (omega (arith, i.high, h)) (omega (arith, i.high, within))
            (some_number n.high (λ zero. i.differ (omega (arith, none, zero)))))
        | inr some ↦
            by_low k n at (ih n.low (omega (arith, i.low, h)) (omega (arith, i.low, within)) (some_number n.low some))
      ]

  holds_at : (bound x : ℕ) → HoldBelow bound → x < suc bound → 0 < x → NodeCase nodes x → Holds x
  holds_at bound x ih h some (is_false e) = absurd (omega (arith, e, some))
  holds_at bound x ih h some (is_true e) =
      (nowhere nodes r, ap (value_at (nowhere nodes r) nodes) e ∙ value-one (nowhere nodes r) nodes)
  holds_at bound x ih h some (is_node k n e at) = rw e (node_holds bound k n ih (rw e at h) at)

  holds_below : (bound : ℕ) → HoldBelow bound
  holds_below zero x h there some = absurd (omega (arith, h))
  holds_below (suc bound) x h there some =
      holds_at bound x (holds_below bound) h some (place_of nodes x there)

  pub holds_somewhere : (x : ℕ) → IsDd nodes x → 0 < x → Holds x
  holds_somewhere x there some = holds_below (suc x) x (omega arith) there some

-- what isn't told to be false holds somewhere
pub false_somewhere : (nodes : List Node) → IsReduced nodes → (x position : ℕ) → IsDd nodes x → position ≡ x
    → (position == 0) ≡ false → (given : Given) × (function_of nodes x given ≡ true)
false_somewhere nodes r x position there same told =
    let some : 0 < x = grind (arith, nat_tests) in
    holds_somewhere nodes r x there some
