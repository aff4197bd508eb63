-- The path of the decided bits of a job, and where their path words stand in the word list.
use Rattle.std.specs.Prelude.{ℕ, List}
use Rattle.mw_term.specs.declared.decided.Decided.{Decided}
use Rattle.mw_rel.specs.CaseWords.{CaseWords, case_words}
use Rattle.mw_rel.specs.ComparisonWords.{Comparison}
use Rattle.mw_rel.specs.Job.{Job}
use Rattle.mw_rel.specs.TreePaths as trees
pub use Rattle.mw_rel.specs.TreePaths.{HaveOneValue, IsWord, StandsAtWord, bit_asked, path_word}
use Rattle.mw_rel.specs.WordTree.{WordTree}
use Rattle.mw_term.specs.Functions.{Function, Triple}
use Rattle.mw_term.specs.Table.{Table}
use Rattle.mw_term.specs.WordList.{table_in}

-- the word lists of the boundary with a number, along decided bits
abbrev pub tree_of : Job → (number : ℕ) → WordTree
tree_of job number = record { map = job.board.map_entries; words = case_words job number }

-- the table of a job's list
abbrev pub table_with : Job → CaseWords → Table
table_with job w = table_in job.board.map_entries w.list

-- the bit that decided bits ask for next
abbrev pub next_bit : Job → (number : ℕ) → List Decided → Function
next_bit job number bits = trees.next_bit (tree_of job number) bits

-- the path of decided bits behind others, whose path is this
abbrev pub path_behind : Job → (number : ℕ) → (before bits : List Decided) → (path : Function) → Function
path_behind job number before bits path = trees.path_behind (tree_of job number) before bits path

-- the path of decided bits
abbrev pub path_of : Job → (number : ℕ) → List Decided → Function
path_of job number bits = trees.path_along (tree_of job number) bits

-- the path word of a comparison of a whole case
abbrev pub comparison_word : Job → (number : ℕ) → (bits : List Decided) → Comparison → Triple
comparison_word job number bits c = trees.comparison_word (tree_of job number) bits c
