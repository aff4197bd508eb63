-- Comparisons of a whole case in a tree of word lists, and a budget of nodes.
use Rattle.std.specs.Prelude.{ℕ, List, Contains}
use Rattle.mw_decide.specs.Decisions.{IsOperationOver}
use Rattle.mw_decide.specs.Faults.{RunStop}
use Rattle.mw_explore.specs.declared.fault.Fault.TheVariants.{NoMemory, Over}
use Rattle.mw_rel.specs.ComparisonWords.{Comparison}
use Rattle.mw_rel.specs.TreePaths.{comparison_word}
use Rattle.mw_rel.specs.WordTree.{WordTree}
use Rattle.mw_term.specs.Cofactors.{HasAtMostCofactors}
use Rattle.mw_term.specs.declared.decided.Decided.{Decided}

-- no path operation of a comparison of a case has more joint cofactors than so many nodes
abbrev pub AreComparisonsWithin : WordTree → (nodes : ℕ) → (bits : List Decided) → Type 0
AreComparisonsWithin tree nodes bits =
    (c : Comparison) → Contains (tree.words bits).comparisons c
    → HasAtMostCofactors (comparison_word tree bits c) nodes

-- an operation of the comparison is over the budget, in the list of the case; or memory ran out
abbrev pub ComparisonStopsIn : WordTree → (nodes : ℕ) → (bits : List Decided) → RunStop → Type 0
ComparisonStopsIn tree nodes bits (Over place) = IsOperationOver tree nodes bits place.word place.bit
ComparisonStopsIn tree nodes bits NoMemory = Unit {0}
