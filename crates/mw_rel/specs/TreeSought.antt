-- Under which assignments of a case in a tree of word lists a start that differs is looked for.
use Rattle.std.specs.Prelude.{◌≡◌, List, [], ◌∷◌, ◌++◌, All}
use Rattle.mw_term.specs.declared.decided.Decided.{Decided}
use Rattle.mw_rel.specs.ComparisonWords.{Comparison}
use Rattle.mw_rel.specs.TreePaths.{comparison_word, path_along}
use Rattle.mw_rel.specs.WordTree.{WordTree}
use Rattle.mw_term.specs.Cofactors.{Agree}
use Rattle.mw_term.specs.Functions.{Function, made, never}
use Rattle.mw_term.specs.WordList.{WordList}

-- a comparison fails under no assignment on the path
abbrev pub NeverFails : WordTree → (bits : List Decided) → Comparison → Type 0
NeverFails tree bits c = Agree (made (comparison_word tree bits c)) never

-- The assignments among which a start that differs is looked for, and the list up to there: where nothing is compared,
-- since every start differs, those of the path; and else those under which the first comparison fails that can.
pub data IsSought (tree : WordTree) (bits : List Decided) (sought : Function) (list : WordList) : Type 0 where
  on_path : (tree.words bits).comparisons ≡ [] → Agree sought (path_along tree bits)
      → list ≡ (tree.words bits).list → IsSought tree bits sought list
  at_comparison : (before after : List Comparison) (c : Comparison)
      → (tree.words bits).comparisons ≡ before ++ c ∷ after → All (NeverFails tree bits) before
      → Agree sought (made (comparison_word tree bits c)) → list ≡ c.list → IsSought tree bits sought list
