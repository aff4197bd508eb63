-- What is so of everything that is known of a question's text, so that it is a question in the end.
use Rattle.std.specs.Prelude.{◌≡◌, ℕ, ◌≤◌, List, length, Some, Ok, All, false}
use Rattle.mw_expr.specs.declared.shape.Shape.{Shape}
use Rattle.mw_expr.specs.Values.{reads_memory}
use Rattle.mw_expr.specs.Widths.{width_of}
use Rattle.mw_check.specs.Question.{Asked, IsQuestion}
use Rattle.mw_check.specs.QuestionText.{Side, Half, Known, declaring, halved, whole, shape_over, question_of}

-- variables of a text: at most 64, each 1 to 32 bits wide, and no memory beside them
pub record AreVariables (names : List (List ℕ)) (s : Shape) : Type 0 where
  pub few : length names ≤ 64
  pub counted : length s.widths ≡ length names
  pub widths : All (λ w. (1 ≤ w) × (w ≤ 32)) s.widths
  pub address : s.address ≡ 0
  pub word : s.word ≡ 0

-- a side is as wide as it is said to be, and reads no memory
pub record IsWide (s : Shape) (side : Side) : Type 0 where
  pub bits : ℕ
  pub told : side.width ≡ Some bits
  pub wide : width_of s side.tree ≡ Ok bits
  pub free : reads_memory side.tree ≡ false

-- the variables and the left side
pub record IsHalf (h : Half) : Type 0 where
  pub variables : AreVariables h.names h.shape
  pub left : IsWide h.shape h.left

-- a question over the variables of a text
pub record IsRead (q : Asked) : Type 0 where
  pub variables : AreVariables q.names q.shape
  pub question : IsQuestion q

-- what is known
abbrev pub IsKnownQuestion : Known → Type 0
IsKnownQuestion (declaring v) = AreVariables v.names (shape_over v.widths)
IsKnownQuestion (halved h) = IsHalf h
IsKnownQuestion (whole q) = IsRead q

-- what is read of a text is a question
abbrev pub TextsAskQuestions : Type 0
TextsAskQuestions = (text : List ℕ) (q : Asked) → question_of text ≡ Ok q → IsRead q
