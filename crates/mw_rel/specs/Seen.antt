-- Lines and boundaries that the code keeps, seen as what they are made of. Relations and jobs, whose types speak of
-- this page, have theirs in another.
use Rattle.std.specs.Prelude.{List, map}
use Rattle.mw_expr.specs.Tree.{view}
use Rattle.mw_rel.specs.declared.boundary.Boundary.{Boundary as KeptBoundary}
use Rattle.mw_rel.specs.declared.line.Line.{Line as KeptLine}
use Rattle.mw_rel.specs.Lines.{Line}
use Rattle.mw_rel.specs.Relation.{Boundary}

-- a line, its right side as a tree
abbrev pub line_of : KeptLine → Line
line_of line = record { left = line.left; right = view line.right }

-- lines
abbrev pub lines_of : List KeptLine → List Line
lines_of lines = map line_of lines

-- a boundary
abbrev pub boundary_of : KeptBoundary → Boundary
boundary_of b = record { address = b.address; bound = b.bound; sp = b.sp; lines = lines_of b.lines }

-- boundaries
abbrev pub boundaries_of : List KeptBoundary → List Boundary
boundaries_of boundaries = map boundary_of boundaries
