-- Why a course has stopped.
use Rattle.std.specs.Prelude.{ℕ, IsSome, List}
use Rattle.mw_term.specs.declared.decided.Decided.{Decided}
use Rattle.mw_rel.specs.CaseWords.{case_words}
use Rattle.mw_rel.specs.Job.{Job}
use Rattle.mw_rel.specs.OverBudget.{AreNodesOver}
use Rattle.mw_fork.specs.Faults.{RunStop}
use Rattle.mw_explore.specs.declared.fault.Fault.TheVariants.{NoMemory, Over}

-- A decision is over so many nodes: the prefix asks for one more bit, so that its list goes up to that bit's word and has
-- no word of a comparison; and an operation of it, at a word and a bit, has more joint cofactors.
pub record IsDecisionOver (job : Job) (number nodes : ℕ) (prefix : List Decided) (word j : ℕ) : Type 0 where
  pub asks : IsSome (case_words job number prefix).asked
  pub over : AreNodesOver job number nodes prefix word j

-- The decision behind these bits is over the budget, at a word and a bit; or memory ran out.
abbrev pub StopsBy : Job → (number nodes : ℕ) → (bits : List Decided) → RunStop → Type 0
StopsBy job number nodes bits (Over place) = IsDecisionOver job number nodes bits place.word place.bit
StopsBy job number nodes bits NoMemory = Unit {0}
