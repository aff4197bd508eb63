-- The feasible cases of twin starts, the operations of their word lists, and what is over a budget there.
use Rattle.std.specs.Prelude.{◌≡◌, ℕ, List, ◌++◌}
use Rattle.mw_rel.specs.TreeBudgets as budgets
use Rattle.mw_rel.specs.TreeOperations as operations
use Rattle.mw_rel.specs.TreeSought as searches
use Rattle.mw_revise.specs.declared.keep.Block.{Block}
use Rattle.mw_revise.specs.Revision.{Revision}
use Rattle.mw_revise.specs.TwinCase.{twin_case}
use Rattle.mw_revise.specs.TwinStart.{TwinStart, IsTwinStart}
use Rattle.mw_revise.specs.TwinWords.{twin_tree}
use Rattle.mw_term.specs.declared.decided.Decided.{Decided}
use Rattle.mw_term.specs.Functions.{Function, Triple}
use Rattle.mw_term.specs.WordList.{WordList}

-- a twin start at a block
pub record IsTwinStartAt (revision : Revision) (block : Block) (twins : TwinStart) : Type 0 where
  pub begins : IsTwinStart revision twins
  pub there : twins.block ≡ block

-- the bits are those of a twin start at the block: a feasible case
pub record IsTwinCase (revision : Revision) (block : Block) (bits : List Decided) : Type 0 where
  pub twins : TwinStart
  pub starts : IsTwinStartAt revision block twins
  pub bits_are : twin_case revision twins ≡ bits

-- the bits are the first ones of a twin start at the block: a feasible prefix
pub record IsTwinPrefix (revision : Revision) (block : Block) (bits : List Decided) : Type 0 where
  pub twins : TwinStart
  pub starts : IsTwinStartAt revision block twins
  pub rest : List Decided
  pub bits_are : twin_case revision twins ≡ bits ++ rest

-- an operation of the list of decided bits, at a word and a bit
abbrev pub IsTwinOperation : Revision → Block → (bits : List Decided) → (word j : ℕ) → (operation : Triple) → Type 0
IsTwinOperation revision block bits word j operation =
    operations.IsOperation (twin_tree revision block) bits word j operation

-- ---- budgets

-- an operation at a word and a bit, in the list of a feasible prefix, has more joint cofactors than so many nodes
abbrev pub AreTwinNodesOver : Revision → Block → (nodes : ℕ) → (prefix : List Decided) → (word j : ℕ) → Type 0
AreTwinNodesOver revision block nodes prefix word j =
    budgets.AreNodesOver (twin_tree revision block) (IsTwinPrefix revision block) nodes prefix word j

-- a block has more feasible cases than so many paths
abbrev pub AreTwinPathsOver : Revision → Block → (limit : ℕ) → Type 0
AreTwinPathsOver revision block limit = budgets.ArePathsOver (IsTwinCase revision block) limit

-- each of some decided bits is asked for, and its path operations are within so many nodes
abbrev pub AreTwinBitsWithin : Revision → Block → (nodes : ℕ) → List Decided → Type 0
AreTwinBitsWithin revision block nodes bits = budgets.AreWithin (twin_tree revision block) nodes bits

-- ---- what is looked for

-- the assignments among which a twin start of a case that differs is looked for, and the list up to there
abbrev pub IsTwinSought : Revision → Block → (bits : List Decided) → (sought : Function) → (list : WordList) → Type 0
IsTwinSought revision block bits sought list = searches.IsSought (twin_tree revision block) bits sought list
