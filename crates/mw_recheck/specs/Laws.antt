-- What lines that keep the rules say is so.
use Rattle.std.specs.Prelude.{◌≡◌, ℕ, ◌+◌, ◌<◌, List, slice_get, Some}
use Rattle.mw_term.specs.Cofactors.{value_of, Agree}
use Rattle.mw_term.specs.Functions.{Function, never, always, ite, made}
use Rattle.mw_recheck.specs.declared.line.LogLine.{LogLine}
use Rattle.mw_recheck.specs.declared.line.LogLine.TheVariants as says
use Rattle.mw_recheck.specs.declared.line.Node.{Node}
use Rattle.mw_recheck.specs.Facts.{triple, chosen}
use Rattle.mw_recheck.specs.Nodes.{nodes_of, variable_of, count, function_of}
use Rattle.mw_recheck.specs.Rules.{KeepRules}

-- the function that a line gives to its node: that of one node where the variable is 1, and else of the other
abbrev pub function_in : List Node → Node → Function
function_in nodes n = made (ite (value_of (variable_of n)) (function_of nodes n.high) (function_of nodes n.low))

-- equal functions have equal nodes
abbrev pub IsCanonical : List Node → Type 0
IsCanonical nodes =
    (x y : ℕ) → x < count nodes → y < count nodes → Agree (function_of nodes x) (function_of nodes y) → x ≡ y

-- what the lines of a boundary say is so: of the constants, of each node, and of each fact; and no two nodes have one
-- function
pub record SayTrue (lines : List LogLine) : Type 0 where
  pub zero : Agree (function_of (nodes_of lines) 0) never
  pub one : Agree (function_of (nodes_of lines) 1) always
  pub nodes : (k : ℕ) (n : Node) → slice_get (nodes_of lines) k ≡ Some n
      → Agree (function_of (nodes_of lines) (k + 2)) (function_in (nodes_of lines) n)
  pub canonical : IsCanonical (nodes_of lines)
  pub facts : (k f g h r : ℕ) → slice_get lines k ≡ Some (says.Fact f g h r)
      → Agree (function_of (nodes_of lines) r) (chosen (nodes_of lines) (triple f g h))

-- Lines that keep the rules say what is so.
abbrev pub LinesSayTrue : Type 0
LinesSayTrue = (lines : List LogLine) → KeepRules lines → SayTrue lines
