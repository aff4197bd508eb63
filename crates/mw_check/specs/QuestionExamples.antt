-- A small question, and texts that are refused, on which the definitions compute.
use Rattle.std.specs.Prelude.{ℕ, List, [], ◌∷◌, ◌++◌, codes}
use Rattle.mw_expr.specs.declared.expr.Pair2.TheVariants.{Add}
use Rattle.mw_expr.specs.Tree.{element, pair}
use Rattle.mw_check.specs.Question.{Asked}

-- a sum, and the same sum the other way round
abbrev pub small_text : List ℕ
small_text =
    codes "var X 4" ++ 10 ∷ []
    ++ codes "var Y 4" ++ 10 ∷ []
    ++ codes "left X + Y" ++ 10 ∷ []
    ++ codes "right Y + X" ++ 10 ∷ []

-- sides of two widths
abbrev pub uneven_text : List ℕ
uneven_text =
    codes "var X 4" ++ 10 ∷ []
    ++ codes "left X" ++ 10 ∷ []
    ++ codes "right X == X" ++ 10 ∷ []

-- a side that reads a memory
abbrev pub memory_text : List ℕ
memory_text =
    codes "var X 4" ++ 10 ∷ []
    ++ codes "left X + mem[X]" ++ 10 ∷ []

-- what the first of them asks
abbrev pub small_question : Asked
small_question = record {
  names = codes "X" ∷ codes "Y" ∷ [];
  shape = record { widths = 4 ∷ 4 ∷ []; address = 0; word = 0 };
  left = pair Add (element 0) (element 1);
  right = pair Add (element 1) (element 0);
}
