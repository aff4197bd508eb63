-- What a described machine is made of.
use Rattle.std.specs.Prelude.{◌≡◌, ℕ, ◌+◌, ◌≤◌, List, length, slice_index, true}
use Rattle.std.specs.List.{list_all}
use Rattle.mw_base.specs.Names.{is_spelled_as_name}
use Rattle.mw_expr.specs.declared.shape.Shape.{Shape}
use Rattle.mw_macro.specs.Statements.{Acts}

-- The names of the registers and then of the temporaries, how many registers there are, the widths of the elements,
-- which are the registers, the temporaries and, last, the request, with those of the memory, and what a step does.
pub record Description : Type 0 where
  pub names : List (List ℕ)
  pub registers : ℕ
  pub shape : Shape
  pub acts : Acts

-- the description of these parts
abbrev pub described : List (List ℕ) → ℕ → Shape → Acts → Description
described names registers shape acts = record { names = names; registers = registers; shape = shape; acts = acts }

-- Each name is spelled as one, and each has an element, as has the request, of one bit.
pub record IsFormed (m : Description) : Type 0 where
  pub spelled : list_all is_spelled_as_name m.names ≡ true
  pub registers : m.registers ≤ length m.names
  pub elements : length m.shape.widths ≡ length m.names + 1
  pub request : slice_index m.shape.widths (length m.names) ≡ 1
