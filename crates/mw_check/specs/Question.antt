-- Questions: whether two expressions over variables agree for all values of these.
use Rattle.std.specs.Prelude.{◌≡◌, ℕ, ◌≤◌, List, [], length, false, IsOk, All}
use Rattle.mw_check.specs.declared.question.Question.{Question}
use Rattle.mw_expr.specs.declared.shape.Shape.{Shape}
use Rattle.mw_expr.specs.Tree.{Tree, view}
use Rattle.mw_expr.specs.Values.{value, reads_memory, AreWords}
use Rattle.mw_expr.specs.Widths.{width_of}

-- the names of the variables, their widths, and the two sides
pub record Asked : Type 0 where
  pub names : List (List ℕ)
  pub shape : Shape
  pub left : Tree
  pub right : Tree

-- a question as what it is made of
abbrev pub asked_of : Question → Asked
asked_of q = record { names = q.names; shape = q.shape; left = view q.left; right = view q.right }

-- a side has a width, and reads no memory
pub record IsSide (s : Shape) (side : Tree) : Type 0 where
  pub wide : IsOk (width_of s side)
  pub free : reads_memory side ≡ false

-- what a question is: a width for each variable, 1 to 32 bits, and two sides that are equally wide
pub record IsQuestion (q : Asked) : Type 0 where
  pub counted : length q.shape.widths ≡ length q.names
  pub range : All (λ w. (1 ≤ w) × (w ≤ 32)) q.shape.widths
  pub left : IsSide q.shape q.left
  pub right : IsSide q.shape q.right
  pub same : width_of q.shape q.left ≡ width_of q.shape q.right

-- ---- what is asked

-- both sides have one value under these values of the variables
abbrev pub AgreeUnder : Asked → (values : List ℕ) → Type 0
AgreeUnder q values = value q.shape values [] q.left ≡ value q.shape values [] q.right

-- the sides have equal values, whatever words the variables are
abbrev pub AlwaysAgree : Asked → Type 0
AlwaysAgree q = (values : List ℕ) → AreWords q.shape.widths values → AgreeUnder q values
