-- The rules of the lines of a boundary.
use Rattle.std.specs.Prelude.{◌≡◌, List, [], ◌∷◌, ◌++◌, Bool, true, ◌&&◌}
use Rattle.mw_recheck.specs.declared.line.LogLine.{LogLine}
use Rattle.mw_recheck.specs.declared.line.LogLine.TheVariants as says
use Rattle.mw_recheck.specs.Facts.{triple, facts_of, is_new_fact}
use Rattle.mw_recheck.specs.Nodes.{nodes_of, is_new_node}

-- a line keeps the rules behind these
unfoldable pub keeps : (before : List LogLine) → LogLine → Bool
keeps before (says.Node word bit high low) =
    is_new_node (nodes_of before) (record { word = word; bit = bit; high = high; low = low })
keeps before (says.Fact f g h r) = is_new_fact (nodes_of before) (facts_of before) (triple f g h) r

-- lines keep the rules behind others, each behind all before it
unfoldable pub keep_behind : (before : List LogLine) → List LogLine → Bool
keep_behind before [] = true
keep_behind before (line ∷ rest) = keeps before line && keep_behind (before ++ line ∷ []) rest

-- the lines of a boundary keep the rules
abbrev pub KeepRules : List LogLine → Type 0
KeepRules lines = keep_behind [] lines ≡ true
