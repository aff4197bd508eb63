-- A small machine, and one that is refused, on which the definitions compute.
use Rattle.std.specs.Prelude.{ℕ, List, [], ◌∷◌, ◌++◌, codes}
use Rattle.mw_expr.specs.declared.expr.Pair2.TheVariants.{Add}
use Rattle.mw_expr.specs.Tree as trees
use Rattle.mw_macro.specs.Machine.{Description}
use Rattle.mw_macro.specs.Statements.{assign, acts_of}

-- adds its second register to its first
abbrev pub small_text : List ℕ
small_text =
    codes "memory 4 4" ++ 10 ∷ []
    ++ codes "register X 4" ++ 10 ∷ []
    ++ codes "register Y 4" ++ 10 ∷ []
    ++ codes "step" ++ 10 ∷ []
    ++ codes "X := X + Y" ++ 10 ∷ []

-- the same machine, but its one statement adds a constant of another width
abbrev pub uneven_text : List ℕ
uneven_text =
    codes "memory 4 4" ++ 10 ∷ []
    ++ codes "register X 4" ++ 10 ∷ []
    ++ codes "register Y 4" ++ 10 ∷ []
    ++ codes "step" ++ 10 ∷ []
    ++ codes "X := X + 1#5" ++ 10 ∷ []

-- what the first of them is
abbrev pub small_machine : Description
small_machine = record {
  names = codes "X" ∷ codes "Y" ∷ [];
  registers = 2;
  shape = record { widths = 4 ∷ 4 ∷ 1 ∷ []; address = 4; word = 4 };
  acts = acts_of (assign 0 (trees.pair Add (trees.element 0) (trees.element 1)) ∷ []);
}
