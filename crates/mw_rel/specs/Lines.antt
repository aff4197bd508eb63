-- A line of a relation, and what its right side reads.
use Rattle.std.specs.Prelude.{ℕ, ◌+◌, List, [], ◌∷◌, Bool, false, ◌||◌, ◌==◌}
use Rattle.mw_expr.specs.Tree.{Tree, element, constant, complement, pair, choice, part, join, widened, memory, Trees}
use Rattle.mw_expr.specs.Tree.{none, more}
use Rattle.mw_macro.specs.Counts.{reads}

-- the element with this number has the value of this expression
pub record Line : Type 0 where
  pub left : ℕ
  pub right : Tree

-- how often the right sides of some lines read the memory
abbrev pub reads_of : List Line → ℕ
reads_of [] = 0
reads_of (line ∷ rest) = reads line.right + reads_of rest

-- the element with a number stands in a tree
abbrev mutual
  pub stands_in : ℕ → Tree → Bool
  stands_in e (element n) = n == e
  stands_in e (constant number w) = false
  stands_in e (complement a) = stands_in e a
  stands_in e (pair sign a b) = stands_in e a || stands_in e b
  stands_in e (choice c a b) = stands_in e c || (stands_in e a || stands_in e b)
  stands_in e (part a high low) = stands_in e a
  stands_in e (join parts) = stands_in_one e parts
  stands_in e (widened a w) = stands_in e a
  stands_in e (memory address) = stands_in e address

  -- it stands in one of some trees
  pub stands_in_one : ℕ → Trees → Bool
  stands_in_one e none = false
  stands_in_one e (more tree rest) = stands_in e tree || stands_in_one e rest
