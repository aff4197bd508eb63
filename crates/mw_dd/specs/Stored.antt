-- Nodes as they are kept: with the index of their variable in a list.
use Rattle.std.specs.Prelude.{◌≡◌, ◌⊎◌, ℕ, ◌<◌, List, [], ◌∷◌, ◌++◌, length, map, slice_get, slice_index_or, Some}
use Rattle.mw_term.specs.Cofactors.{Variable, variable}
use Rattle.mw_dd.specs.declared.nodes.Node.{Node}
use Rattle.mw_dd.specs.declared.unique_table.Stored.{Stored}
use Rattle.mw_dd.specs.Links.{IsAbsent}

-- the node that a kept one stands for, by the list of variables
abbrev pub node_of : List Variable → Stored → Node
node_of variables s = record {
  variable = slice_index_or variables s.index (variable 0 0);
  low = s.low;
  high = s.high;
}

-- the nodes that the kept ones stand for
abbrev pub nodes_of : List Variable → List Stored → List Node
nodes_of variables stored = map (node_of variables) stored

-- the index of each node is a place of the list, and no variable stands there twice
pub record AreKnown (variables : List Variable) (stored : List Stored) : Type 0 where
  pub within : (k : ℕ) (s : Stored) → slice_get stored k ≡ Some s → s.index < length variables
  pub once : (i j : ℕ) (v : Variable) → slice_get variables i ≡ Some v → slice_get variables j ≡ Some v → i ≡ j

-- a list is as it was, or has this variable behind it, which it didn't have
abbrev pub HasAdded : (old new : List Variable) → Variable → Type 0
HasAdded old new v = (new ≡ old) ⊎ ((new ≡ old ++ v ∷ []) × IsAbsent old v)
