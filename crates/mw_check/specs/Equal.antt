-- What the answers to a question mean.
use Rattle.std.specs.Prelude.{◌≡◌, ℕ, ◌+◌, ◌%◌, ◌^◌, List, [], ◌∷◌, Some, slice_index}
use Rattle.mw_expr.specs.Values.{AreWords}
use Rattle.mw_term.specs.Assigned.{Given}
use Rattle.mw_dd.specs.Diagrams.{IsNoLater}
use Rattle.mw_term.specs.WordList.{word_number}
use Rattle.mw_blast.specs.Causes.{IsOver}
use Rattle.mw_check.specs.declared.equality.Equality.{Equality}
use Rattle.mw_check.specs.declared.equality.Equality.TheVariants.{Yes, No, Unknown}
use Rattle.mw_check.specs.Question.{Asked, AgreeUnder, AlwaysAgree}
use Rattle.mw_check.specs.QuestionWords.{words_of, table_for}

-- the assignment that gives the variables these values: they are the words with numbers from 1
unfoldable pub given_values : (values : List ℕ) → Given
given_values values word = slice_index (0 ∷ values) word

-- the values that an assignment gives to variables of these widths, which are words with numbers from one on
abbrev pub values_from : (number : ℕ) → (widths : List ℕ) → Given → List ℕ
values_from number [] given = []
values_from number (w ∷ rest) given = given number % 2 ^ w ∷ values_from (number + 1) rest given

-- The first values under which the sides of a question differ: words of the variables' widths, and no other such values
-- are before them in the order of variables, which goes by bit and then by number, with 0 before 1.
pub record IsFirstDifference (q : Asked) (values : List ℕ) : Type 0 where
  pub words : AreWords q.shape.widths values
  pub differ : ¬ AgreeUnder q values
  pub first : (others : List ℕ) → AreWords q.shape.widths others → ¬ AgreeUnder q others
      → IsNoLater (given_values values) (given_values others)

-- an operation of the word of this number, in the question's list, is over a budget at this bit
pub record IsOverBudget (q : Asked) (word bit budget : ℕ) : Type 0 where
  pub term : ℕ
  pub its : word_number (words_of q).words term ≡ Some word
  pub over : IsOver (table_for q) term bit budget

-- what an answer says of a question that was asked within a budget
abbrev pub IsAnswer : Asked → (budget : ℕ) → Equality → Type 0
IsAnswer q budget Yes = AlwaysAgree q
IsAnswer q budget (No values) = IsFirstDifference q values
IsAnswer q budget (Unknown word bit) = IsOverBudget q word bit budget
