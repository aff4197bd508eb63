-- The values of nodes, as the list grows.
use Rattle.std.proofs.Common.{◌≡◌, ℕ, suc, zero, ◌+◌, ◌<◌, List, [], ◌∷◌, ◌++◌, length, get_or, arith}
use Rattle.std.proofs.Common.{refl, ap, ◌∙◌}
use Rattle.std.specs.Prelude.{Bool, true, false, if◌then◌else◌, slice_get, Some}
use Rattle.std.proofs.lemmas.List.{get_or_append_left, get_or_push, length-append}
use Rattle.mw_term.specs.Assigned.{Given}
use Rattle.mw_term.specs.Cofactors.{value_of}
use Rattle.mw_recheck.specs.declared.line.Node.{Node}
use Rattle.mw_recheck.specs.Nodes.{variable_of, node_value, values_after, constants, value_at, count}

module _ (given : Given) where
  length-values : (before : List Bool) (ns : List Node)
      → length (values_after given before ns) ≡ length before + length ns
  length-values before [] = omega arith
  length-values before (n ∷ ns) =
      let e = length-values (before ++ node_value given before n ∷ []) ns in
      let f = length-append before (node_value given before n ∷ []) in
      omega (arith, e, f)

  -- a value that is there stays
  values-old : (before : List Bool) (ns : List Node) (i : ℕ) → i < length before
      → get_or (values_after given before ns) i false ≡ get_or before i false
  values-old before [] i h = refl
  values-old before (n ∷ ns) i h =
      let f = length-append before (node_value given before n ∷ []) in
      values-old (before ++ node_value given before n ∷ []) ns i (omega (arith, f))
      ∙ get_or_append_left before (node_value given before n ∷ []) false i h

  values-append : (before : List Bool) (ns : List Node) (m : Node) → values_after given before (ns ++ m ∷ [])
      ≡ values_after given before ns ++ node_value given (values_after given before ns) m ∷ []
  values-append before [] m = refl
  values-append before (n ∷ ns) m = values-append (before ++ node_value given before n ∷ []) ns m

  -- a node's value is that of one of its branches
  values-at : (before : List Bool) (ns : List Node) (k : ℕ) (n : Node) → slice_get ns k ≡ Some n
      → n.low < length before + k → n.high < length before + k
      → get_or (values_after given before ns) (length before + k) false
      ≡ (if value_of (variable_of n) given then get_or (values_after given before ns) n.high false
      else get_or (values_after given before ns) n.low false)
  values-at before [] k n e p q = cc
  values-at before (m ∷ ns) zero n e p q =
      let same : m ≡ n = cc in
      let after : List Bool = before ++ node_value given before m ∷ [] in
      let f : length after ≡ length before + 1 = length-append before (node_value given before m ∷ []) in
      let z : length before + 0 ≡ length before = omega arith in
      let low = values-old after ns n.low (omega (arith, f))
      ∙ get_or_append_left before (node_value given before m ∷ []) false n.low (omega arith) in
      let high = values-old after ns n.high (omega (arith, f))
      ∙ get_or_append_left before (node_value given before m ∷ []) false n.high (omega arith) in
      rw (z, low, high) (values-old after ns (length before) (omega (arith, f))
      ∙ get_or_push before (node_value given before m) false (length before) refl ∙ ap (node_value given before) same)
  values-at before (m ∷ ns) (suc k) n e p q =
      let after : List Bool = before ++ node_value given before m ∷ [] in
      let f : length after ≡ length before + 1 = length-append before (node_value given before m ∷ []) in
      let z : length before + suc k ≡ length after + k = omega (arith, f) in
      rw z (values-at after ns k n e (omega (arith, f)) (omega (arith, f)))

  pub value-node : (nodes : List Node) (k : ℕ) (n : Node) → slice_get nodes k ≡ Some n → n.low < k + 2
      → n.high < k + 2 → value_at given nodes (k + 2)
      ≡ (if value_of (variable_of n) given then value_at given nodes n.high else value_at given nodes n.low)
  unfolding value_at
  value-node nodes k n e p q =
      let z : k + 2 ≡ 2 + k = omega arith in
      rw z (values-at constants nodes k n e (omega arith) (omega arith))

  pub value-old : (nodes : List Node) (m : Node) (x : ℕ) → x < count nodes
      → value_at given (nodes ++ m ∷ []) x ≡ value_at given nodes x
  unfolding value_at
  value-old nodes m x h =
      let l = length-values constants nodes in
      rw (values-append constants nodes m) (get_or_append_left _ _ false x (omega (arith, l)))

  pub value-zero : (nodes : List Node) → value_at given nodes 0 ≡ false
  unfolding value_at
  value-zero nodes = values-old constants nodes 0 (omega arith)

  pub value-one : (nodes : List Node) → value_at given nodes 1 ≡ true
  unfolding value_at
  value-one nodes = values-old constants nodes 1 (omega arith)

  -- a node's value by the branch that its variable chooses
  pub value-high : (nodes : List Node) (k : ℕ) (n : Node) → slice_get nodes k ≡ Some n → n.low < k + 2
      → n.high < k + 2 → value_of (variable_of n) given ≡ true
      → value_at given nodes (k + 2) ≡ value_at given nodes n.high
  value-high nodes k n e p q t = rw t at (value-node nodes k n e p q)

  pub value-low : (nodes : List Node) (k : ℕ) (n : Node) → slice_get nodes k ≡ Some n → n.low < k + 2
      → n.high < k + 2 → value_of (variable_of n) given ≡ false
      → value_at given nodes (k + 2) ≡ value_at given nodes n.low
  value-low nodes k n e p q t = rw t at (value-node nodes k n e p q)
