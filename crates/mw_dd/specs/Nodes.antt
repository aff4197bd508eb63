-- What nodes stand for: 0 is false, 1 is true, and k + 2 is the node at place k of the table.
use Rattle.std.specs.Prelude.{◌≡◌, ℕ, ◌+◌, ◌<◌, List, [], ◌∷◌, ◌++◌, length, Bool, true, false, if◌then◌else◌}
use Rattle.std.specs.Prelude.{slice_get, slice_index_or, Some}
use Rattle.mw_term.specs.Assigned.{Given}
use Rattle.mw_term.specs.Cofactors.{Variable, variable, value_of, is_before}
use Rattle.mw_term.specs.Functions.{Function}
use Rattle.mw_dd.specs.declared.nodes.Node as declared

-- a node that is no constant: its variable and its branches
abbrev pub Node : Type 0
Node = declared.Node

-- a node's value, from the values of those before it
abbrev pub node_value : Given → (before : List Bool) → Node → Bool
node_value given before n =
    if value_of n.variable given then slice_index_or before n.high false else slice_index_or before n.low false

-- the values of nodes in turn
abbrev pub values_after : Given → (before : List Bool) → List Node → List Bool
values_after given before [] = before
values_after given before (n ∷ rest) = values_after given (before ++ node_value given before n ∷ []) rest

-- the values of the constants
abbrev pub constants : List Bool
constants = false ∷ true ∷ []

-- the value of a node of a table under an assignment
unfoldable pub value_at : Given → List Node → ℕ → Bool
value_at given nodes x = slice_index_or (values_after given constants nodes) x false

-- the function of a node of a table
abbrev pub function_of : List Node → ℕ → Function
function_of nodes x = λ given. value_at given nodes x

-- how many nodes there are, the constants with them
abbrev pub count : List Node → ℕ
count nodes = length nodes + 2

-- a node of the table
abbrev pub IsDd : List Node → ℕ → Type 0
IsDd nodes x = x < count nodes

-- ---- ordered and reduced

-- a node's own variable isn't before a place; a constant has none
abbrev pub IsFrom : List Node → Variable → ℕ → Type 0
IsFrom nodes place x = (k : ℕ) (n : Node) → x ≡ k + 2 → slice_get nodes k ≡ Some n → is_before n.variable place ≡ false

-- the place after a variable
abbrev pub after : Variable → Variable
after v = variable v.bit (v.word + 1)

-- a node: its variable is a bit of 32, its branches are earlier, of later variables, and differ
pub record IsInner (nodes : List Node) (k : ℕ) (n : Node) : Type 0 where
  pub bit : n.variable.bit < 32
  pub low : n.low < k + 2
  pub high : n.high < k + 2
  pub low_later : IsFrom nodes (after n.variable) n.low
  pub high_later : IsFrom nodes (after n.variable) n.high
  pub differ : ¬ (n.low ≡ n.high)

-- a table of nodes, each once
pub record IsReduced (nodes : List Node) : Type 0 where
  pub inner : (k : ℕ) (n : Node) → slice_get nodes k ≡ Some n → IsInner nodes k n
  pub once : (j k : ℕ) (n : Node) → slice_get nodes j ≡ Some n → slice_get nodes k ≡ Some n → j ≡ k
