-- The operations of a tree's word list at a word and a bit.
use Rattle.std.specs.Prelude.{◌≡◌, ℕ, List, ◌++◌, Bool, Contains, Some, slice_get}
use Rattle.mw_term.specs.declared.decided.Decided.{Decided}
use Rattle.mw_rel.specs.ComparisonWords.{Comparison}
use Rattle.mw_rel.specs.TreePaths.{IsWord, StandsAtWord, comparison_word, next_bit, path_along, path_word}
use Rattle.mw_rel.specs.WordTree.{WordTree}
use Rattle.mw_term.specs.declared.op.Op.{Op}
use Rattle.mw_term.specs.Functions.{Triple}
use Rattle.mw_term.specs.Rows.{row}
use Rattle.mw_term.specs.WordList.{table_in}

-- it is one of the term table's row of a word and a bit
pub record IsOfRow (tree : WordTree) (bits : List Decided) (word j : ℕ) (operation : Triple) : Type 0 where
  pub term : ℕ
  pub at : IsWord (tree.words bits).list word term
  pub op : Op
  pub its : slice_get (tree.words bits).list.ops term ≡ Some op
  pub among : Contains (row (table_in tree.map (tree.words bits).list) op j) operation

-- it is that of a path word, at bit 0, of a bit on the way or of the one that is asked for next
pub record IsOfPath (tree : WordTree) (bits : List Decided) (word j : ℕ) (operation : Triple) : Type 0 where
  pub before : List Decided
  pub rest : List Decided
  pub bits_are : bits ≡ before ++ rest
  pub term : ℕ
  pub asked : (tree.words before).asked ≡ Some term
  pub at : StandsAtWord (table_in tree.map (tree.words bits).list) (tree.words bits).list (tree.words before).list
      term word
  pub lowest : j ≡ 0
  pub value : Bool
  pub is : operation ≡ path_word (path_along tree before) (next_bit tree before) value

-- it is that of the path word, at bit 0, of a comparison of a whole case
pub record IsOfComparison (tree : WordTree) (bits : List Decided) (word j : ℕ) (operation : Triple) : Type 0 where
  pub compared : Comparison
  pub among : Contains (tree.words bits).comparisons compared
  pub at : StandsAtWord (table_in tree.map (tree.words bits).list) (tree.words bits).list (tree.words bits).list
      compared.term word
  pub lowest : j ≡ 0
  pub is : operation ≡ comparison_word tree bits compared

-- An operation of the list of decided bits, at a word and a bit.
pub data IsOperation (tree : WordTree) (bits : List Decided) (word j : ℕ) (operation : Triple) : Type 0 where
  of_row : IsOfRow tree bits word j operation → IsOperation tree bits word j operation
  of_path : IsOfPath tree bits word j operation → IsOperation tree bits word j operation
  of_comparison : IsOfComparison tree bits word j operation → IsOperation tree bits word j operation
