-- The memory reads of an expression in a text.
use Rattle.std.specs.Prelude.{List, [], ◌∷◌, ◌++◌}
use Rattle.mw_base.specs.declared.token.Token.{Token}
use Rattle.mw_expr.specs.Placed.{Placed, named, constant, complement, pair, choice, part, join, widened, memory, group}
use Rattle.mw_expr.specs.Placed.{Parts, none, more}

-- the word `mem` of each memory read of an expression, in their order in the text
abbrev mutual
  pub mems : Placed → List Token
  mems (named token number) = []
  mems (constant number hash w) = []
  mems (complement token e) = mems e
  mems (pair op token a b) = mems a ++ mems b
  mems (choice token c a b) = mems c ++ (mems a ++ mems b)
  mems (part token high low e) = mems e
  mems (join token parts) = mems_in parts
  mems (widened token w e) = mems e
  mems (memory token e) = token ∷ mems e
  mems (group token e) = mems e

  -- those of the parts of a join
  pub mems_in : Parts → List Token
  mems_in none = []
  mems_in (more tree rest) = mems tree ++ mems_in rest
