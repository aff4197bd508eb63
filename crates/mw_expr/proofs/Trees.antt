-- Trees of lists.
use Rattle.std.proofs.Common.{◌≡◌, List, [], ◌∷◌, length, map, refl, ap, arith}
use Rattle.mw_expr.specs.declared.expr.Expr.{Expr}
use Rattle.mw_expr.specs.declared.placed.Placed.{Placed as Kept}
use Rattle.mw_expr.specs.Placed.{placed, parts_of}
use Rattle.mw_expr.specs.Plain.{plain, plain_parts}
use Rattle.mw_expr.specs.Tree.{view, trees_of, more}
use Rattle.mw_expr.specs.Widths.{count}

-- there is a tree for each expression of a list
pub count_view : (parts : List Expr) → count (trees_of (map view parts)) ≡ length parts
count_view [] = refl
count_view (part ∷ rest) = omega (arith, count_view rest)

-- the parts of a join without their places, one by one and together
pub plain_all : (parts : List Kept)
    → trees_of (map (λ part. plain (placed part)) parts) ≡ plain_parts (parts_of (map placed parts))
plain_all [] = refl
plain_all (part ∷ rest) = ap (more (plain (placed part))) (plain_all rest)
