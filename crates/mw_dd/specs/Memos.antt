-- What one call has met.
use Rattle.std.specs.Prelude.{◌≡◌, ℕ, List, [], ◌∷◌, ◌++◌, length, slice_get, slice_set, Some, false}
use Rattle.mw_dd.specs.declared.nodes.Node.{Node}
use Rattle.mw_dd.specs.declared.nodes.Triple.{Triple}
use Rattle.mw_dd.specs.declared.memo.Memo.{Memo}
use Rattle.mw_dd.specs.Steps.{AreDds, IsResult, IsLeft, AreAmong, ends}

-- a triple that was met, at its place
abbrev pub IsMet : Memo → (i : ℕ) → Triple → Type 0
IsMet memo i t = slice_get memo.triples i ≡ Some t

-- nothing was met
pub record IsCleared (memo : Memo) : Type 0 where
  pub triples : memo.triples ≡ []
  pub results : memo.results.items ≡ []

-- beside each stands a result
abbrev pub AreBeside : Memo → Type 0
AreBeside memo = length memo.results.items ≡ length memo.triples

-- the result of a triple that was met, which is anything until it is made
abbrev pub HasResult : Memo → Triple → ℕ → Type 0
HasResult memo t r = (i : ℕ) × IsMet memo i t × (slice_get memo.results.items i ≡ Some r)

-- a triple is met at a place, and nothing else
pub record IsBegun (before now : Memo) (t : Triple) (at : ℕ) : Type 0 where
  pub place : at ≡ length before.triples
  pub triples : now.triples ≡ before.triples ++ t ∷ []
  pub results : now.results.items ≡ before.results.items ++ 0 ∷ []

-- its result is made
pub record IsEnded (before now : Memo) (place made : ℕ) : Type 0 where
  pub triples : now.triples ≡ before.triples
  pub results : now.results.items ≡ slice_set before.results.items place made

-- each triple that was met counts, is of nodes that are there, and was met once; beside it stands a result
pub record AreKeys (nodes : List Node) (memo : Memo) : Type 0 where
  pub there : (i : ℕ) (t : Triple) → IsMet memo i t → AreDds nodes t
  pub counted : (i : ℕ) (t : Triple) → IsMet memo i t → ends t ≡ false
  pub once : (i j : ℕ) (t : Triple) → IsMet memo i t → IsMet memo j t → i ≡ j
  pub beside : AreBeside memo

-- the result of a triple that was met is made, and all its joint cofactors were met
pub record IsDone (nodes : List Node) (memo : Memo) (i : ℕ) (t : Triple) : Type 0 where
  pub result : ℕ
  pub at : slice_get memo.results.items i ≡ Some result
  pub is : IsResult nodes t result
  pub among : AreAmong nodes memo.triples t

-- what was met is left of three functions
abbrev pub AreLeft : List Node → Memo → (whole : Triple) → Type 0
AreLeft nodes memo whole = (i : ℕ) (t : Triple) → IsMet memo i t → IsLeft nodes whole t
