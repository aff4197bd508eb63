-- What is over a budget in the word lists of a job, and what isn't.
use Rattle.std.specs.Prelude.{ℕ, List}
use Rattle.mw_term.specs.declared.decided.Decided.{Decided}
use Rattle.mw_rel.specs.Case.{IsCase, IsFeasiblePrefix}
use Rattle.mw_rel.specs.Job.{Job}
use Rattle.mw_rel.specs.PathWords.{tree_of}
use Rattle.mw_rel.specs.TreeBudgets as trees

-- An operation at a word and a bit, in the list of a feasible prefix, has more joint cofactors than so many nodes.
abbrev pub AreNodesOver : Job → (number nodes : ℕ) → (prefix : List Decided) → (word j : ℕ) → Type 0
AreNodesOver job number nodes prefix word j =
    trees.AreNodesOver (tree_of job number) (IsFeasiblePrefix job number) nodes prefix word j

-- a boundary has more feasible cases than so many paths
abbrev pub ArePathsOver : Job → (number limit : ℕ) → Type 0
ArePathsOver job number limit = trees.ArePathsOver (IsCase job number) limit

-- a bit is asked for behind decided bits, and its path operations are within so many nodes
abbrev pub IsWithin : Job → (number nodes : ℕ) → (before : List Decided) → Type 0
IsWithin job number nodes before = trees.IsWithin (tree_of job number) nodes before

-- so it is with each of some decided bits
abbrev pub AreWithin : Job → (number nodes : ℕ) → List Decided → Type 0
AreWithin job number nodes bits = trees.AreWithin (tree_of job number) nodes bits
