-- What the code keeps of the lines of a boundary.
use Rattle.std.specs.Prelude.{◌≡◌, List}
use Rattle.std.specs.HashSet.{HashSet, contains}
use Rattle.mw_recheck.specs.declared.facts as kept
use Rattle.mw_recheck.specs.declared.line.LogLine.{LogLine}
use Rattle.mw_recheck.specs.declared.line.Node.{Node}
use Rattle.mw_recheck.specs.Facts.{facts_of, facts_seen}
use Rattle.mw_recheck.specs.Nodes.{nodes_of, is_node, is_among}
use Rattle.mw_recheck.specs.Rules.{KeepRules}

-- these are the nodes of lines that keep the rules, the set of them, and the facts
pub record AreOf {S : Type 0} (lines : List LogLine) (nodes : List Node) (listed : HashSet Node S)
    (facts : kept.Facts.Facts) : Type 0 where
  pub rules : KeepRules lines
  pub nodes_are : nodes ≡ nodes_of lines
  pub listed_are : (n : Node) → contains is_node listed n ≡ is_among (nodes_of lines) n
  pub facts_are : facts_seen facts ≡ facts_of lines
