-- What is so of everything that is known of a relation's text, so that a relation is made of it.
use Rattle.std.specs.Prelude.{◌≡◌, ℕ, ◌+◌, ◌<◌, ◌≤◌, ◌^◌, List, length, map, All, IfSome, Bool, true, false, ◌==◌}
use Rattle.std.specs.List.{list_any}
use Rattle.mw_expr.specs.declared.shape.Shape.{Shape}
use Rattle.mw_expr.specs.Grammar.{is_dotted}
use Rattle.mw_expr.specs.Text.{IsShape}
use Rattle.mw_rel.specs.Lines.{Line, stands_in, reads_of}
use Rattle.mw_rel.specs.Relation.{Boundary, IsFormedLine, IsFormedBoundary}
use Rattle.mw_rel.specs.Rules.{addresses_are_once, is_even, are_even, lefts_are_once, rights_are_free, is_bounded}
use Rattle.mw_descfile.specs.declared.scope.Scope.{Scope}
use Rattle.mw_descfile.specs.declared.uses.Use.{Use}
use Rattle.mw_descfile.specs.Boundaries.{PlacedLine, Block, is_taken}
use Rattle.mw_descfile.specs.Relation.{Known}

-- what expressions are over: a shape, and a name of two parts for each of its elements
pub record IsScope (scope : Scope) : Type 0 where
  pub shape : IsShape scope.shape
  pub named : length scope.names ≡ length scope.shape.widths
  pub dotted : is_dotted scope.names ≡ true

-- an element stands among these
abbrev pub is_among : List Use → ℕ → Bool
is_among uses number = list_any (λ (u : Use). u.number == number) uses

-- a line that was given: formed as it has to be, its right side as wide as its left one, and each element that stands
-- there among those that were found
pub record IsPlacedLine (s : Shape) (g : PlacedLine) : Type 0 where
  pub formed : IsFormedLine s g.line
  pub even : is_even s g.line ≡ true
  pub found : (number : ℕ) → stands_in number g.line.right ≡ true → is_among g.uses number ≡ true

-- the lines that were given, without where they stand
abbrev pub lines_in : List PlacedLine → List Line
lines_in lines = map (λ (g : PlacedLine). g.line) lines

-- a boundary that has ended
pub record IsEnded (s : Shape) (boundary : Boundary) : Type 0 where
  pub formed : IsFormedBoundary s boundary
  pub even : are_even s boundary ≡ true
  pub once : lefts_are_once boundary ≡ true
  pub free : rights_are_free boundary ≡ true
  pub bound : is_bounded boundary ≡ true

-- a boundary that is open, behind those that have ended
pub record IsOpen (s : Shape) (before : List Boundary) (block : Block) : Type 0 where
  pub room : length before < 64
  pub address : block.address < 2 ^ 12
  pub apart : is_taken before block.address ≡ false
  pub some : 1 ≤ block.bound
  pub most : block.bound ≤ 500
  pub few : length block.lines ≤ 256
  pub reads : reads_of (lines_in block.lines) + block.reads_left ≡ 64
  pub lines : All (IsPlacedLine s) block.lines

-- what is known
pub record IsKnownRelation (s : Shape) (known : Known) : Type 0 where
  pub few : length known.boundaries ≤ 64
  pub once : addresses_are_once known.boundaries ≡ true
  pub ended : All (IsEnded s) known.boundaries
  pub open_now : IfSome known.block (IsOpen s known.boundaries)
