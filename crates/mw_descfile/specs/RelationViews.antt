-- How clauses see what the code keeps of a relation's text.
use Rattle.std.specs.Prelude.{map, option_map}
use Rattle.mw_expr.specs.Written.{written}
use Rattle.mw_rel.specs.Seen.{line_of, boundaries_of}
use Rattle.mw_descfile.specs.declared.block as blocks
use Rattle.mw_descfile.specs.declared.relation as relations
use Rattle.mw_descfile.specs.declared.relation_line.Told.{Told as KeptTold}
use Rattle.mw_descfile.specs.declared.relation_line.Told.TheVariants as kept
use Rattle.mw_descfile.specs.Boundaries.{PlacedLine, Block}
use Rattle.mw_descfile.specs.Relation.{Known}
use Rattle.mw_descfile.specs.RelationLines.{Told, sp_line, equation_line, end_line}

-- what a line of a boundary says
abbrev pub told_seen : KeptTold → Told
told_seen (kept.StackPointer word value) = sp_line word value
told_seen (kept.Equation element sign value uses) = equation_line element sign (written value) uses.items
told_seen (kept.End word) = end_line word

-- a line as it was given
abbrev pub given_seen : blocks.PlacedLine.PlacedLine → PlacedLine
given_seen g = record { line = line_of g.line; name = g.name; uses = g.uses.items }

-- a boundary that is open
abbrev pub block_seen : blocks.Block.Block → Block
block_seen b = record {
  address = b.address;
  bound = b.bound;
  sp = b.sp;
  reads_left = b.reads_left;
  lines = map given_seen b.lines.items;
}

-- what is known after some lines
abbrev pub known_seen : relations.Known.Known → Known
known_seen known = record {
  boundaries = boundaries_of known.boundaries.items;
  block = option_map block_seen known.block;
}
