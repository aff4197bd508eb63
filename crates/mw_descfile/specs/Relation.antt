-- The relation of a text.
use Rattle.std.specs.Prelude.{ℕ, List, [], ◌∷◌, ◌++◌, codes, length, map, take, nat_lt, if◌then◌else◌, Option, Some}
use Rattle.std.specs.Prelude.{None, Result, Ok, Err}
use Rattle.mw_base.specs.declared.cause.Cause.TheVariants.{BadSyntax, NoBoundary, ShapesDiffer}
use Rattle.mw_base.specs.declared.line.Line.{Line}
use Rattle.mw_base.specs.declared.refusal.TextFault.{TextFault}
use Rattle.mw_base.specs.declared.token.Token.{Token}
use Rattle.mw_base.specs.Cursors.{at_line}
use Rattle.mw_base.specs.Reading.{◌>>=◌}
use Rattle.mw_base.specs.Steps.{steps}
use Rattle.mw_base.specs.TokenLines.{last_fault, text_end, token_lines}
use Rattle.mw_asm.specs.declared.assembled.Label.{Label}
use Rattle.mw_board.specs.declared.parts.BoardParts.{BoardParts}
use Rattle.mw_board.specs.Depth.{depth_of}
use Rattle.mw_board.specs.Elements.{elements_of}
use Rattle.mw_expr.specs.declared.shape.Shape.{Shape}
use Rattle.mw_macro.specs.Machine.{Description}
use Rattle.mw_rel.specs.Job.{shape_of, memories_agree}
use Rattle.mw_rel.specs.Relation.{Boundary, Relation, related}
use Rattle.mw_descfile.specs.declared.relation.Sides.{Sides}
use Rattle.mw_descfile.specs.declared.scope.Scope.{Scope}
use Rattle.mw_descfile.specs.Boundaries.{Block, block_of, with_stack_pointer, with_equation, closed_block}
use Rattle.mw_descfile.specs.RelationLines.{beginning_of, Told, sp_line, equation_line, end_line, told_of}
use Rattle.mw_descfile.specs.Statements.{allowed}

-- the names of the elements of a relation: b.NAME for those of the board, and behind them m.NAME for the registers
unfoldable pub names_of : BoardParts → Description → List (List ℕ)
names_of board machine =
    map (λ element. codes "b." ++ element.name) (elements_of board)
    ++ map (λ name. codes "m." ++ name) (take machine.registers machine.names)

-- what its expressions are over
abbrev pub scope_for : BoardParts → Description → Scope
scope_for board machine = record { names = names_of board machine; shape = shape_of board machine }

-- what its lines are over: what its expressions are over, and how many words the board's stack has
abbrev pub sides_of : BoardParts → Description → Sides
sides_of board machine = record { scope = scope_for board machine; depth = depth_of board }

-- what is known after some lines: the boundaries that have ended, and the one that hasn't
pub record Known : Type 0 where
  pub boundaries : List Boundary
  pub block : Option Block

-- with the boundary that is open as it is after what a line of it says
unfoldable pub with_told : List ℕ → Sides → List Boundary → Block → Told → Result Known TextFault
with_told text sides boundaries block (sp_line word value) = do
  more ← with_stack_pointer sides.depth word value block
  Ok (record { boundaries = boundaries; block = Some more })
with_told text sides boundaries block (equation_line element sign value uses) = do
  more ← with_equation text sides.scope element sign value uses block
  Ok (record { boundaries = boundaries; block = Some more })
with_told text sides boundaries block (end_line word) = do
  boundary ← closed_block block word
  Ok (record { boundaries = boundaries ++ boundary ∷ []; block = None })

-- what is known after a line that isn't blank, where this boundary is open
unfoldable pub with_tokens : List ℕ → List Label → Sides → List Boundary → Option Block → Line → Result Known TextFault
with_tokens text labels sides boundaries None line = do
  said ← beginning_of (at_line text line BadSyntax)
  block ← block_of text labels boundaries said
  Ok (record { boundaries = boundaries; block = Some block })
with_tokens text labels sides boundaries (Some block) line = do
  told ← told_of sides.scope (at_line text line BadSyntax)
  with_told text sides boundaries block told

-- what is known after a line that has these tokens; blank lines say nothing
abbrev pub with_any : List ℕ → List Label → Sides → Known → Line → List Token → Result Known TextFault
with_any text labels sides known line [] = Ok known
with_any text labels sides known line (token ∷ rest) = with_tokens text labels sides known.boundaries known.block line

-- what is known after a line
abbrev pub with_line : List ℕ → List Label → Sides → Known → Line → Result Known TextFault
with_line text labels sides known line = with_any text labels sides known line line.tokens

-- the relation of some boundaries, of which there has to be one
abbrev pub relation_with : List Boundary → Shape → Result Relation TextFault
relation_with boundaries s =
    if nat_lt 0 (length boundaries) then Ok (related boundaries s) else Err (last_fault None NoBoundary)

-- the relation of what is known at the end of a text, where that is a fault if a boundary is open
abbrev pub finished : Shape → TextFault → List Boundary → Option Block → Result Relation TextFault
finished s fault boundaries None = relation_with boundaries s
finished s fault boundaries (Some block) = Err fault

-- the relation of a text between a board with its microprogram and a machine, or its first fault: those of its bytes;
-- that of a machine whose memory isn't the board's; those of its lines one after another; then that of its end
unfoldable pub relation_of : BoardParts → List Label → Description → List ℕ → Result Relation TextFault
relation_of board labels machine text = do
  lines ← token_lines text
  same ← allowed (memories_agree board machine) (last_fault None ShapesDiffer)
  known ← steps (with_line text labels (sides_of board machine)) (record { boundaries = []; block = None }) lines
  finished (shape_of board machine) (text_end lines BadSyntax) known.boundaries known.block
