-- What is over a budget in a tree of word lists, and what isn't.
use Rattle.std.specs.Prelude.{◌≡◌, ◌≢◌, ℕ, ◌<◌, List, ◌∷◌, ◌++◌, length, Bool, IsSome}
use Rattle.std.specs.List.{All, AllPairs}
use Rattle.mw_term.specs.declared.decided.Decided.{Decided}
use Rattle.mw_rel.specs.TreeOperations.{IsOperation}
use Rattle.mw_rel.specs.TreePaths.{next_bit, path_along, path_word}
use Rattle.mw_rel.specs.WordTree.{WordTree}
use Rattle.mw_term.specs.Cofactors.{HasAtMostCofactors, HasMoreCofactors}
use Rattle.mw_term.specs.Functions.{Triple}

-- An operation at a word and a bit, in the list of a feasible prefix, has more joint cofactors than so many nodes.
pub record AreNodesOver (tree : WordTree) (IsFeasible : List Decided → Type 0) (nodes : ℕ) (prefix : List Decided)
    (word j : ℕ) : Type 0 where
  pub feasible : IsFeasible prefix
  pub operation : Triple
  pub listed : IsOperation tree prefix word j operation
  pub over : HasMoreCofactors operation nodes

-- There are more feasible cases than so many paths.
pub record ArePathsOver (IsFeasible : List Decided → Type 0) (limit : ℕ) : Type 0 where
  pub cases : List (List Decided)
  pub feasible : All IsFeasible cases
  pub different : AllPairs (λ a b. a ≢ b) cases
  pub more : limit < length cases

-- A bit is asked for behind decided bits, and none of its path operations has more joint cofactors than so many nodes.
pub record IsWithin (tree : WordTree) (nodes : ℕ) (before : List Decided) : Type 0 where
  pub asks : IsSome (tree.words before).asked
  pub within : (value : Bool)
      → HasAtMostCofactors (path_word (path_along tree before) (next_bit tree before) value) nodes

-- so it is with each of some decided bits
abbrev pub AreWithin : WordTree → (nodes : ℕ) → List Decided → Type 0
AreWithin tree nodes bits =
    (before rest : List Decided) (d : Decided) → bits ≡ before ++ d ∷ rest → IsWithin tree nodes before
