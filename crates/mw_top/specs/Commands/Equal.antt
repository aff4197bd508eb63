-- equal: a question.
use Rattle.std.specs.Prelude.{◌≡◌, ℕ, List, [], ◌++◌, codes, length, slice_index, slice_index_or}
use Rattle.std.specs.List.{flat_map, range_with_len}
use Rattle.mw_base.specs.Numbers.{decimal, hex}
use Rattle.mw_check.specs.declared.equality.Equality.{Equality}
use Rattle.mw_check.specs.declared.equality.Equality.TheVariants as equalities
use Rattle.mw_check.specs.Equal.{IsAnswer}
use Rattle.mw_check.specs.Question.{Asked, IsQuestion}
use Rattle.mw_check.specs.QuestionText.{question_of}
use Rattle.mw_expr.specs.Values.{value}
use Rattle.mw_plan.specs.Plan.{Plan, done, ◌>>=◌, next_by}
use Rattle.mw_sim.specs.Texts.{line, value_line}
use Rattle.mw_top.specs.declared.commands.Work.{Work}
use Rattle.mw_top.specs.declared.commands.Work.TheVariants as works
use Rattle.mw_top.specs.declared.fault.Fault.{Fault}
use Rattle.mw_top.specs.declared.fault.Fault.TheVariants.{Text}
use Rattle.mw_top.specs.declared.status.Status.{Status}
use Rattle.mw_top.specs.declared.status.Status.TheVariants.{Done, Differs, Unknown}

-- the question of the file
unfoldable pub equal_plan : Plan Fault Work
equal_plan = do
  question ← next_by Text question_of
  done (works.Question question)

-- the status of an answer
abbrev pub equality_status : Equality → Status
equality_status equalities.Yes = Done
equality_status (equalities.No values) = Differs
equality_status (equalities.Unknown word bit) = Unknown

-- the line of the variable with a number, from 0; none where its value is 0
abbrev pub variable_line : (names : List (List ℕ)) → (values : List ℕ) → ℕ → List ℕ
variable_line names values i = value_line (codes "set ") (slice_index_or names i []) (slice_index values i)

-- the lines of the variables, in the order of the question
abbrev pub variable_lines : (names : List (List ℕ)) → (values : List ℕ) → List ℕ
variable_lines names values = flat_map (variable_line names values) (range_with_len 0 (length names))

-- what the two sides are under these values
unfoldable pub sides_line : Asked → (values : List ℕ) → List ℕ
sides_line q values =
    line
    (codes "left " ++ hex (value q.shape values [] q.left) ++ codes " right " ++ hex (value q.shape values [] q.right))

-- a word and a bit of it
abbrev pub word_text : (word bit : ℕ) → List ℕ
word_text word bit = codes " word " ++ decimal word ++ codes " bit " ++ decimal bit

-- an operation at a bit of a word is over the budget
abbrev pub unknown_line : (word bit : ℕ) → List ℕ
unknown_line word bit = line (codes "unknown" ++ word_text word bit)

-- the report of an answer
unfoldable pub equality_report : Asked → Equality → List ℕ
equality_report q equalities.Yes = line (codes "yes")
equality_report q (equalities.No values) = line (codes "no") ++ variable_lines q.names values ++ sides_line q values
equality_report q (equalities.Unknown word bit) = unknown_line word bit

-- a question is answered so within a budget, and that is what status and report say
pub record IsEquality (nodes : ℕ) (question : Asked) (status : Status) (report : List ℕ) : Type 0 where
  pub question_is : IsQuestion question
  pub equality : Equality
  pub answers : IsAnswer question nodes equality
  pub status_is : status ≡ equality_status equality
  pub report_is : report ≡ equality_report question equality
