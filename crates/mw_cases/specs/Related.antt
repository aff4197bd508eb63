-- The relation of a generated job.
use Rattle.std.specs.Prelude.{ℕ, ◌+◌, [], ◌∷◌, ◌++◌, replicate}
use Rattle.mw_expr.specs.declared.shape.Shape.{Shape}
use Rattle.mw_expr.specs.Tree.{element, constant}
use Rattle.mw_rel.specs.Lines.{Line}
use Rattle.mw_rel.specs.Relation.{Boundary, Relation, related}

-- the number of the board's register n among the elements of both
abbrev pub board_register : ℕ → ℕ
board_register n = n

-- that of the microprogram counter
abbrev pub microprogram_counter : ℕ
microprogram_counter = 19

-- that of the machine's register n, behind the 26 elements of the board
abbrev pub machine_register : ℕ → ℕ
machine_register n = 26 + n

-- the board's register has the value of the machine's
abbrev pub equal_registers : ℕ → ℕ → Line
equal_registers n m = record { left = board_register n; right = element (machine_register m) }

-- the microprogram counter is 1
abbrev pub counter_line : Line
counter_line = record { left = microprogram_counter; right = constant 1 12 }

-- The one boundary, at address 0 with an empty stack: registers 0 to 3 are A0 to A3, and register 15 is PC. A segment
-- takes three cycles and one for each operation, seven at most.
abbrev pub generated_boundary : Boundary
generated_boundary = record {
  address = 0;
  bound = 7;
  sp = 0;
  lines =
      counter_line
      ∷ equal_registers 0 1
      ∷ equal_registers 1 2
      ∷ equal_registers 2 3
      ∷ equal_registers 3 4
      ∷ equal_registers 15 0
      ∷ [];
}

-- the widths of the board's elements and of the machine's registers, and those of the memory
abbrev pub generated_elements : Shape
generated_elements = record {
  widths = replicate 17 16 ++ 8 ∷ 16 ∷ replicate 7 12 ++ replicate 5 16;
  address = 8;
  word = 16;
}

-- the relation, which has this boundary alone
abbrev pub generated_relation : Relation
generated_relation = related (generated_boundary ∷ []) generated_elements
