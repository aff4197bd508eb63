-- What is found of the twin starts of a case that differ.
use Rattle.std.specs.Prelude.{◌≡◌, ◌≢◌, ℕ, List, Option, Some, None}
use Rattle.mw_compare.specs.TreeComparisons.{AreComparisonsWithin}
use Rattle.mw_dd.specs.Diagrams.{IsFirst}
use Rattle.mw_decide.specs.Faults.{RunStop}
use Rattle.mw_explore.specs.declared.fault.Fault.TheVariants.{NoMemory, Over}
use Rattle.mw_revise.specs.TwinBudgets.{AreTwinNodesOver, IsTwinSought, IsTwinStartAt}
use Rattle.mw_revise.specs.TwinCase.{twin_case}
use Rattle.mw_revise.specs.TwinDiffers.{twin_difference}
use Rattle.mw_revise.specs.TwinWords.{twin_tree}
use Rattle.mw_term.specs.Assigned.{Numbers, given_by}
use Rattle.mw_term.specs.declared.decided.Decided.{Decided}
use Rattle.mw_term.specs.Functions.{Function}
use Rattle.mw_term.specs.WordList.{WordList}
use Rattle.mw_twin.specs.Assigned.{IsTwinAssigned, twins_of}
use Rattle.mw_twin.specs.declared.starts.TwinStarts.{TwinStarts}
use Rattle.mw_twin.specs.RevisedBlocks.{RevisedBlock}
use Rattle.mw_twincompare.specs.Failing.{NoneDiffersOf}

-- They are those of a twin start at the block with this case, which differs.
pub record IsDiffering (s : RevisedBlock) (bits : List Decided) (starts : TwinStarts) : Type 0 where
  pub at_block : IsTwinStartAt s.revision s.block (twins_of s.block starts)
  pub of_case : twin_case s.revision (twins_of s.block starts) ≡ bits
  pub differs : twin_difference s.revision (twins_of s.block starts) ≢ None

-- They are what the first assignment gives among those that are sought.
pub record IsLeast (s : RevisedBlock) (bits : List Decided) (starts : TwinStarts) : Type 0 where
  pub sought : Function
  pub list : WordList
  pub among : IsTwinSought s.revision s.block bits sought list
  pub numbers : Numbers
  pub first : IsFirst sought numbers
  pub assigned : IsTwinAssigned s.revision.board s.block list (given_by numbers) starts

-- What is found of a case: nothing, where none of its twin starts differs, and no path operation of a comparison is over
-- so many nodes; or one that differs, the least of those that are sought.
abbrev pub IsFoundOf : RevisedBlock → (nodes : ℕ) → (bits : List Decided) → Option TwinStarts → Type 0
IsFoundOf s nodes bits None =
    NoneDiffersOf s bits × AreComparisonsWithin (twin_tree s.revision s.block) nodes bits
IsFoundOf s nodes bits (Some starts) = IsDiffering s bits starts × IsLeast s bits starts

-- an operation of the comparison is over the budget, in the list of the case; or memory ran out
abbrev pub ComparisonStops : RevisedBlock → (nodes : ℕ) → (bits : List Decided) → RunStop → Type 0
ComparisonStops s nodes bits (Over place) =
    AreTwinNodesOver s.revision s.block nodes bits place.word place.bit
ComparisonStops s nodes bits NoMemory = Unit {0}
