-- What a relation is made of.
use Rattle.std.specs.Prelude.{◌≡◌, ℕ, ◌<◌, ◌≤◌, ◌^◌, List, length, All, true}
use Rattle.mw_expr.specs.declared.shape.Shape.{Shape}
use Rattle.mw_expr.specs.Widths.{is_known, depth}
use Rattle.mw_rel.specs.Lines.{Line, reads_of}

-- a boundary: its control address, the bound in cycles of the segment that begins there, the stack pointer, and its
-- lines
pub record Boundary : Type 0 where
  pub address : ℕ
  pub bound : ℕ
  pub sp : ℕ
  pub lines : List Line

-- its boundaries in the order of the file, and the widths of the elements and of the memory of which their lines speak
pub record Relation : Type 0 where
  pub boundaries : List Boundary
  pub shape : Shape

-- the relation of these parts
abbrev pub related : List Boundary → Shape → Relation
related boundaries shape = record { boundaries = boundaries; shape = shape }

-- the left side is an element, and so is each that stands on the right, which is at most 64 deep
pub record IsFormedLine (s : Shape) (line : Line) : Type 0 where
  pub left : line.left < length s.widths
  pub known : is_known (length s.widths) line.right ≡ true
  pub depth : depth line.right ≤ 64

-- a control address, at most 256 lines, and at most 64 memory reads in them
pub record IsFormedBoundary (s : Shape) (boundary : Boundary) : Type 0 where
  pub address : boundary.address < 2 ^ 12
  pub few : length boundary.lines ≤ 256
  pub reads : reads_of boundary.lines ≤ 64
  pub lines : All (IsFormedLine s) boundary.lines

-- at most 64 boundaries
pub record IsFormed (r : Relation) : Type 0 where
  pub few : length r.boundaries ≤ 64
  pub boundaries : All (IsFormedBoundary r.shape) r.boundaries
