-- How clauses see an expression as it stands in a text.
use Rattle.mw_expr.specs.declared.written.Written.{Written}
use Rattle.mw_expr.specs.Placed.{Placed, placed}

-- the tree of an expression in a text
abbrev pub written : Written → Placed
written w = placed w.tree
