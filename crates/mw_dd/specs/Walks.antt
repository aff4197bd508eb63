-- The way of the first assignment down from a node.
use Rattle.std.specs.Prelude.{◌≡◌, ℕ, ◌<◌, List, true, false}
use Rattle.mw_term.specs.Assigned.{Given, Numbers, given_by}
use Rattle.mw_term.specs.Cofactors.{Variable, value_of, is_before}
use Rattle.mw_dd.specs.declared.nodes.Node.{Node}
use Rattle.mw_dd.specs.Nodes.{value_at, IsDd, IsFrom}
use Rattle.mw_dd.specs.Diagrams.{AgreeBefore}

-- The way has come down from a whole function to a node of it. The assignment so far has values for the variables
-- before the node's place, and 0 for the others. It fixes the whole to the node: under each assignment that agrees with
-- it before the place, both have one value. And it is still the first: under no assignment that is before it, as far as
-- the place, does the whole hold.
pub record Walks (nodes : List Node) (whole : ℕ) (numbers : Numbers) (x : ℕ) : Type 0 where
  pub place : Variable
  pub there : IsDd nodes x
  pub some : 0 < x
  pub from : IsFrom nodes place x
  pub same : (given : Given) → AgreeBefore place (given_by numbers) given
      → value_at given nodes whole ≡ value_at given nodes x
  pub first : (given : Given) → value_at given nodes whole ≡ true → (v : Variable) → is_before v place ≡ true
      → AgreeBefore v (given_by numbers) given → value_of v (given_by numbers) ≡ true → value_of v given ≡ true
  pub rest : (v : Variable) → is_before v place ≡ false → value_of v (given_by numbers) ≡ false
