-- The parts of expressions.
use Rattle.std.specs.Prelude.{◌≡◌, ℕ, List, [], ◌∷◌, Some, Ok, IsOk, All}
use Rattle.mw_expr.specs.declared.shape.Shape.{Shape}
use Rattle.mw_expr.specs.Tree.{Tree, element, constant, complement, pair, choice, part, join, widened, memory, Trees}
use Rattle.mw_expr.specs.Tree.{none, more}
use Rattle.mw_expr.specs.Widths.{width, width_of}

-- the parts of a join as a list
abbrev pub listed : Trees → List Tree
listed none = []
listed (more tree rest) = tree ∷ listed rest

-- what a tree is made of, from left to right
abbrev pub parts_of : Tree → List Tree
parts_of (element n) = []
parts_of (constant number w) = []
parts_of (complement e) = e ∷ []
parts_of (pair sign a b) = a ∷ b ∷ []
parts_of (choice c a b) = c ∷ a ∷ b ∷ []
parts_of (part e high low) = e ∷ []
parts_of (join parts) = listed parts
parts_of (widened e w) = e ∷ []
parts_of (memory address) = address ∷ []

-- where a tree has a width, so has each of its parts
abbrev pub PartsHaveWidths : Type 0
PartsHaveWidths = (s : Shape) (tree : Tree) → IsOk (width_of s tree)
    → All (λ part. IsOk (width_of s part)) (parts_of tree)

-- the width of a tree is that of the rules of widths
abbrev pub WidthsAreByRule : Type 0
WidthsAreByRule = (s : Shape) (tree : Tree) (w : ℕ) → width_of s tree ≡ Ok w → width s tree ≡ Some w
