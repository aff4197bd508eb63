-- Nodes of diagrams that stand for Boolean functions, and for the bits of terms.
use Rattle.std.specs.Prelude.{◌≡◌, ℕ, ◌<◌, List, length, slice_index}
use Rattle.mw_term.specs.Cofactors.{Agree}
use Rattle.mw_term.specs.Functions.{Function}
use Rattle.mw_term.specs.Rows.{bit}
use Rattle.mw_term.specs.Table.{Table, term_width}
use Rattle.mw_dd.specs.Nodes.{Node, function_of, IsDd}

-- a node stands for a function
pub record StandsFor (nodes : List Node) (x : ℕ) (f : Function) : Type 0 where
  pub there : IsDd nodes x
  pub exact : Agree (function_of nodes x) f

-- some nodes of the table
abbrev pub AreThere : List Node → List ℕ → Type 0
AreThere nodes xs = (j : ℕ) → j < length xs → IsDd nodes (slice_index xs j)

-- each of some nodes stands for the function of its place
abbrev pub StandEach : List Node → List ℕ → (ℕ → Function) → Type 0
StandEach nodes xs f = (j : ℕ) → j < length xs → StandsFor nodes (slice_index xs j) (f j)

-- nodes for so many functions, one each
pub record AreFor (nodes : List Node) (n : ℕ) (f : ℕ → Function) (xs : List ℕ) : Type 0 where
  pub count : length xs ≡ n
  pub each : StandEach nodes xs f

-- nodes for the bits of a term, from the lowest
abbrev pub AreBits : Table → List Node → (term : ℕ) → List ℕ → Type 0
AreBits t nodes term = AreFor nodes (term_width t term) (bit t term)
