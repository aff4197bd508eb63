-- Why a bit of a twin case isn't decided.
use Rattle.std.specs.Prelude.{ℕ, IsSome, List}
use Rattle.mw_decide.specs.Faults.{RunStop}
use Rattle.mw_explore.specs.declared.fault.Fault.TheVariants.{NoMemory, Over}
use Rattle.mw_revise.specs.TwinBudgets.{AreTwinNodesOver}
use Rattle.mw_revise.specs.TwinWords.{twin_tree}
use Rattle.mw_term.specs.declared.decided.Decided.{Decided}
use Rattle.mw_twin.specs.RevisedBlocks.{RevisedBlock}

-- A decision is over so many nodes: the prefix asks for one more bit, so that its list goes up to that bit's word and has
-- no word of a comparison; and an operation of it, at a word and a bit, has more joint cofactors.
pub record IsDecisionOver (s : RevisedBlock) (nodes : ℕ) (prefix : List Decided) (word j : ℕ) : Type 0 where
  pub asks : IsSome ((twin_tree s.revision s.block).words prefix).asked
  pub over : AreTwinNodesOver s.revision s.block nodes prefix word j

-- the decision behind these bits is over the budget, at a word and a bit; or memory ran out
abbrev pub StopsBy : RevisedBlock → (nodes : ℕ) → (bits : List Decided) → RunStop → Type 0
StopsBy s nodes bits (Over place) = IsDecisionOver s nodes bits place.word place.bit
StopsBy s nodes bits NoMemory = Unit {0}
