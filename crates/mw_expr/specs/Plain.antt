-- The expression that a tree of a text is, without the places of its tokens and without parentheses.
use Rattle.std.specs.Prelude.{ℕ, ◌^◌, Bool, true, false, ◌&&◌, nat_lt, Option, Some, None, unwrap_or}
use Rattle.mw_expr.specs.Placed.{Placed, named, constant, complement, pair, choice, part, join, widened, memory, group}
use Rattle.mw_expr.specs.Placed.{Parts, none, more}
use Rattle.mw_expr.specs.Tree as trees

-- the expression that a tree of a text is
abbrev mutual
  pub plain : Placed → trees.Tree
  plain (named token number) = trees.element (unwrap_or number 0)
  plain (constant number hash w) = trees.constant number.value w
  plain (complement token e) = trees.complement (plain e)
  plain (pair op token a b) = trees.pair op (plain a) (plain b)
  plain (choice token c a b) = trees.choice (plain c) (plain a) (plain b)
  plain (part token high low e) = trees.part (plain e) high low
  plain (join token parts) = trees.join (plain_parts parts)
  plain (widened token w e) = trees.widened (plain e) w
  plain (memory token e) = trees.memory (plain e)
  plain (group token e) = plain e

  -- the expressions that some parts are
  pub plain_parts : Parts → trees.Trees
  plain_parts none = trees.none
  plain_parts (more tree rest) = trees.more (plain tree) (plain_parts rest)

-- an element that there is, with a number of 32 bits
abbrev pub is_small_number : Option ℕ → Bool
is_small_number (Some n) = nat_lt n (2 ^ 32)
is_small_number None = false

-- each number of a tree fits an expression, and its elements are there; so it is where nothing is at fault
abbrev mutual
  pub is_small : Placed → Bool
  is_small (named token number) = is_small_number number
  is_small (constant number hash w) = nat_lt number.value (2 ^ 32) && nat_lt w (2 ^ 8)
  is_small (complement token e) = is_small e
  is_small (pair op token a b) = is_small a && is_small b
  is_small (choice token c a b) = is_small c && (is_small a && is_small b)
  is_small (part token high low e) = is_small e && (nat_lt high (2 ^ 8) && nat_lt low (2 ^ 8))
  is_small (join token parts) = are_small parts
  is_small (widened token w e) = is_small e && nat_lt w (2 ^ 8)
  is_small (memory token e) = is_small e
  is_small (group token e) = is_small e

  -- each number of some parts fits, and their elements are there
  pub are_small : Parts → Bool
  are_small none = true
  are_small (more tree rest) = is_small tree && are_small rest
