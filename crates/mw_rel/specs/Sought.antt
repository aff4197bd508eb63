-- Which starts of a job's case are looked for to find one that differs.
use Rattle.std.specs.Prelude.{ℕ, List}
use Rattle.mw_term.specs.declared.decided.Decided.{Decided}
use Rattle.mw_rel.specs.ComparisonWords.{Comparison}
use Rattle.mw_rel.specs.Job.{Job}
use Rattle.mw_rel.specs.PathWords.{tree_of}
use Rattle.mw_rel.specs.TreeSought as trees
use Rattle.mw_term.specs.Functions.{Function}
use Rattle.mw_term.specs.WordList.{WordList}

-- a comparison fails under no assignment on the path
abbrev pub NeverFails : Job → (number : ℕ) → (bits : List Decided) → Comparison → Type 0
NeverFails job number bits c = trees.NeverFails (tree_of job number) bits c

-- the assignments among which a start of a case that differs is looked for, and the list up to there
abbrev pub IsSought : Job → (number : ℕ) → (bits : List Decided) → (sought : Function) → (list : WordList) → Type 0
IsSought job number bits sought list = trees.IsSought (tree_of job number) bits sought list
