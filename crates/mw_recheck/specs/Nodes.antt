-- The nodes of a boundary of a log: 0 is false, 1 is true, and k + 2 is the node of line k of those that add one.
use Rattle.std.specs.Prelude.{ℕ, ◌+◌, ◌-◌, List, [], ◌∷◌, ◌++◌, length, Bool, true, false, not, ◌&&◌, ◌||◌, ◌==◌}
use Rattle.std.specs.Prelude.{nat_lt, if◌then◌else◌, slice_get, slice_index_or, Option, Some, None}
use Rattle.std.specs.List.{flat_map, list_any}
use Rattle.mw_term.specs.Assigned.{Given}
use Rattle.mw_term.specs.Cofactors.{Variable, variable, value_of, is_before}
use Rattle.mw_term.specs.Functions.{Function}
use Rattle.mw_recheck.specs.declared.line as code
use Rattle.mw_recheck.specs.declared.line.LogLine.{LogLine}
use Rattle.mw_recheck.specs.declared.line.LogLine.TheVariants as says
use Rattle.mw_recheck.specs.declared.line.Node.{Node}

-- a variable as the code has it
abbrev pub seen : code.Variable.Variable → Variable
seen v = variable v.bit v.word

-- the variable of a node
abbrev pub variable_of : Node → Variable
variable_of n = variable n.bit n.word

-- two variables are one
abbrev pub is_variable : (v u : Variable) → Bool
is_variable v u = (v.bit == u.bit) && (v.word == u.word)

-- two nodes are one
abbrev pub is_node : (n m : Node) → Bool
is_node n m = (n.word == m.word) && ((n.bit == m.bit) && ((n.high == m.high) && (n.low == m.low)))

-- ---- the nodes that lines add

-- the line that adds a node
abbrev pub line_of : Node → LogLine
line_of n = says.Node n.word n.bit n.high n.low

-- what a line adds
abbrev pub added_by : LogLine → List Node
added_by (says.Node word bit high low) = record { word = word; bit = bit; high = high; low = low } ∷ []
added_by (says.Fact f g h r) = []

-- the nodes that lines add, in order
unfoldable pub nodes_of : List LogLine → List Node
nodes_of lines = flat_map added_by lines

-- how many nodes there are, the constants with them
abbrev pub count : List Node → ℕ
count nodes = length nodes + 2

-- the node of a number, where it is there and no constant
abbrev pub node_at : List Node → ℕ → Option Node
node_at nodes x = if nat_lt x 2 then None else slice_get nodes (x - 2)

-- ---- what nodes stand for

-- a node's value, from the values of those before it
abbrev pub node_value : Given → (before : List Bool) → Node → Bool
node_value given before n =
    if value_of (variable_of n) given then slice_index_or before n.high false else slice_index_or before n.low false

-- the values of nodes in turn
abbrev pub values_after : Given → (before : List Bool) → List Node → List Bool
values_after given before [] = before
values_after given before (n ∷ rest) = values_after given (before ++ node_value given before n ∷ []) rest

-- the values of the constants
abbrev pub constants : List Bool
constants = false ∷ true ∷ []

-- the value of a node under an assignment
unfoldable pub value_at : Given → List Node → ℕ → Bool
value_at given nodes x = slice_index_or (values_after given constants nodes) x false

-- the function of a node
abbrev pub function_of : List Node → ℕ → Function
function_of nodes x = λ given. value_at given nodes x

-- ---- the rule of lines that add a node

-- a variable comes before that of a node that is there
abbrev pub is_later : Variable → Option Node → Bool
is_later v None = false
is_later v (Some n) = is_before v (variable_of n)

-- what a node of a variable may choose: a constant, or an earlier node of a later variable
abbrev pub can_be_branch : List Node → Variable → ℕ → Bool
can_be_branch nodes v x = nat_lt x 2 || is_later v (node_at nodes x)

-- what a node chooses differs, and it may choose both
unfoldable pub branches_fit : List Node → Node → Bool
branches_fit nodes n =
    not (n.high == n.low) && (can_be_branch nodes (variable_of n) n.high && can_be_branch nodes (variable_of n) n.low)

-- a node is one of these
abbrev pub is_among : List Node → Node → Bool
is_among nodes n = list_any (is_node n) nodes

-- A node keeps the rule behind these: its variable is a bit of 32, what it chooses fits, and it is none of these.
abbrev pub is_new_node : List Node → Node → Bool
is_new_node nodes n = nat_lt n.bit 32 && (branches_fit nodes n && not (is_among nodes n))
