-- The operations of a job's word list at a word and a bit.
use Rattle.std.specs.Prelude.{ℕ, List}
use Rattle.mw_term.specs.declared.decided.Decided.{Decided}
use Rattle.mw_rel.specs.Job.{Job}
use Rattle.mw_rel.specs.PathWords.{tree_of}
use Rattle.mw_rel.specs.TreeOperations as trees
use Rattle.mw_term.specs.Functions.{Triple}

-- an operation of the list of decided bits, at a word and a bit
abbrev pub IsOperation : Job → (number : ℕ) → (bits : List Decided) → (word j : ℕ) → (operation : Triple) → Type 0
IsOperation job number bits word j operation = trees.IsOperation (tree_of job number) bits word j operation
