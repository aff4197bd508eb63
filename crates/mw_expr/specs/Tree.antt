-- Expressions as trees, without where they lie in memory.
use Rattle.std.specs.Prelude.{ℕ, List, [], ◌∷◌}
use Rattle.mw_expr.specs.declared.expr.Pair2.{Pair2}
use Rattle.mw_expr.specs.declared.expr.Expr.{Expr, fold-Expr}
use Rattle.mw_expr.specs.declared.expr.Expr.TheOpen.{Expr-F}

-- an expression
mutual
  pub data Tree : Type 0 where
    element : ℕ → Tree
    constant : (number width : ℕ) → Tree
    complement : Tree → Tree
    pair : Pair2 → Tree → Tree → Tree
    choice : (condition first second : Tree) → Tree
    part : Tree → (high low : ℕ) → Tree
    join : Trees → Tree
    widened : Tree → (width : ℕ) → Tree
    memory : (address : Tree) → Tree

  -- the parts of a join, the highest first
  pub data Trees : Type 0 where
    none : Trees
    more : Tree → Trees → Trees

-- the parts of a join, from a list
abbrev pub trees_of : List Tree → Trees
trees_of [] = none
trees_of (tree ∷ rest) = more tree (trees_of rest)

-- one level of an expression, its parts already seen as trees
abbrev pub view_level : Expr-F Tree → Tree
view_level (Expr-F.Element n) = element n
view_level (Expr-F.Con number width) = constant number width
view_level (Expr-F.Not e) = complement e.value
view_level (Expr-F.Two sign a b) = pair sign a.value b.value
view_level (Expr-F.Choose condition a b) = choice condition.value a.value b.value
view_level (Expr-F.Part e high low) = part e.value high low
view_level (Expr-F.Join parts) = join (trees_of parts.items)
view_level (Expr-F.Widen e width) = widened e.value width
view_level (Expr-F.Memory address) = memory address.value

-- the tree that an expression is
abbrev pub view : Expr → Tree
view = fold-Expr Tree view_level
