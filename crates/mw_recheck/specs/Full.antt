-- What a log has to hold of a job, so that each of its cases can be followed by the log alone.
use Rattle.std.specs.Prelude.{◌≡◌, ℕ, ◌<◌, List, length, Bool, Contains, Some, slice_get}
use Rattle.mw_term.specs.declared.decided.Decided.{Decided}
use Rattle.mw_term.specs.declared.op.Op.{Op}
use Rattle.mw_term.specs.declared.op.Op.TheVariants.{Var}
use Rattle.mw_term.specs.Cofactors.{Agree, Variable, variable, value_of}
use Rattle.mw_term.specs.Functions as functions
use Rattle.mw_term.specs.Operands.{IsReached}
use Rattle.mw_term.specs.Rows.{bit, row}
use Rattle.mw_term.specs.Table.{Table}
use Rattle.mw_term.specs.WordList.{table_in}
use Rattle.mw_rel.specs.Case.{IsFeasiblePrefix}
use Rattle.mw_rel.specs.CaseWords.{case_words}
use Rattle.mw_rel.specs.ComparisonWords.{Comparison}
use Rattle.mw_rel.specs.Job.{Job}
use Rattle.mw_rel.specs.PathWords.{comparison_word, path_of, path_word, table_with}
use Rattle.mw_recheck.specs.declared.line.LogLine.{LogLine}
use Rattle.mw_recheck.specs.Facts.{facts_of, result_of, triple}
use Rattle.mw_recheck.specs.Nodes.{count, function_of, nodes_of}

-- a node of a boundary's lines has a function
pub record Has (lines : List LogLine) (x : ℕ) (f : functions.Function) : Type 0 where
  pub there : x < count (nodes_of lines)
  pub function : Agree (function_of (nodes_of lines) x) f

-- a variable has its node
abbrev pub HasNode : List LogLine → Variable → Type 0
HasNode lines v = (x : ℕ) × Has lines x (value_of v)

-- an operation has its result, at once or by a fact
pub record HasResult (lines : List LogLine) (operation : functions.Triple) : Type 0 where
  pub f : ℕ
  pub g : ℕ
  pub h : ℕ
  pub f_is : Has lines f operation.f
  pub g_is : Has lines g operation.g
  pub h_is : Has lines h operation.h
  pub result : ℕ
  pub is : result_of (facts_of lines) (triple f g h) ≡ Some result

-- ---- what is needed

-- What a term needs, with all its bits: of it, of its operands, of theirs and so on, the variables and the operations
-- of the rows.
pub record HasAllOf (lines : List LogLine) (t : Table) (term : ℕ) : Type 0 where
  pub variables : (reached word width j : ℕ) → IsReached t term reached
      → slice_get t.ops reached ≡ Some (Var word width) → j < width → HasNode lines (variable j word)
  pub operations : (reached : ℕ) (op : Op) (j : ℕ) (operation : functions.Triple) → IsReached t term reached
      → slice_get t.ops reached ≡ Some op → Contains (row t op j) operation → HasResult lines operation

-- what the decision behind decided bits needs: its word, and both path words
pub record HasDecision (lines : List LogLine) (job : Job) (number : ℕ) (before : List Decided) (term : ℕ) : Type 0 where
  pub word : HasAllOf lines (table_with job (case_words job number before)) term
  pub paths : (value : Bool) → HasResult lines
      (path_word (path_of job number before) (bit (table_with job (case_words job number before)) term 0) value)

-- what a comparison of a case needs: its word, and its path word
pub record HasComparison (lines : List LogLine) (job : Job) (number : ℕ) (bits : List Decided) (c : Comparison)
    : Type 0 where
  pub word : HasAllOf lines (table_in job.board.map_entries c.list) c.term
  pub path : HasResult lines (comparison_word job number bits c)

-- ---- a full log

-- the lines of a boundary have what each decision and comparison needs, of each feasible prefix
pub record IsFullAt (job : Job) (number : ℕ) (lines : List LogLine) : Type 0 where
  pub decisions : (before : List Decided) (term : ℕ) → IsFeasiblePrefix job number before
      → (case_words job number before).asked ≡ Some term → HasDecision lines job number before term
  pub comparisons : (bits : List Decided) (c : Comparison) → IsFeasiblePrefix job number bits
      → Contains (case_words job number bits).comparisons c → HasComparison lines job number bits c

-- a log is full for a job: it has lines for each boundary, and has all there
pub record IsFull (job : Job) (log : List (List LogLine)) : Type 0 where
  pub boundaries : length log ≡ length job.relation.boundaries
  pub each : (number : ℕ) (lines : List LogLine) → slice_get log number ≡ Some lines → IsFullAt job number lines
