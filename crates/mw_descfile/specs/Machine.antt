-- The machine of a text.
use Rattle.std.specs.Prelude.{ℕ, List, [], ◌∷◌, take, if◌then◌else◌, Result, Ok, Err}
use Rattle.mw_base.specs.declared.cause.Cause.TheVariants.{BadSyntax}
use Rattle.mw_base.specs.declared.line.Line.{Line}
use Rattle.mw_base.specs.declared.refusal.TextFault.{TextFault}
use Rattle.mw_base.specs.declared.token.Token.{Token}
use Rattle.mw_base.specs.Cursors.{at_line}
use Rattle.mw_base.specs.Reading.{◌>>=◌}
use Rattle.mw_base.specs.Steps.{steps}
use Rattle.mw_base.specs.TokenLines.{text_end, token_lines}
use Rattle.mw_macro.specs.Machine.{Description, described}
use Rattle.mw_macro.specs.Statements.{acts_of}
use Rattle.mw_descfile.specs.declared.declaration.Declaration.{Declaration}
use Rattle.mw_descfile.specs.declared.declaration.Declaration.TheVariants.{Element, Step}
use Rattle.mw_descfile.specs.Declarations.{Declared, sizes_of, declaration_of, with_sizes, with_declared}
use Rattle.mw_descfile.specs.Stating.{Stated, begun, can_end, with_stated}

-- what is known after some lines: nothing yet; what was declared; or, after `step`, what was stated
pub data Known : Type 0 where
  nothing : Known
  declaring : Declared → Known
  stating : Stated → Known

-- what is known after a line that declares something
abbrev pub with_declaration : List ℕ → Declared → Declaration → Result Known TextFault
with_declaration text d (Element kind name width) = do
  more ← with_declared text kind name width d
  Ok (declaring more)
with_declaration text d Step = Ok (stating (begun d))

-- what is known after a line that isn't blank: first the memory, then the registers and temporaries up to `step`,
-- then the statements
unfoldable pub with_tokens : List ℕ → Known → Line → Result Known TextFault
with_tokens text nothing line = do
  sizes ← sizes_of (at_line text line BadSyntax)
  declared ← with_sizes sizes
  Ok (declaring declared)
with_tokens text (declaring d) line = do
  declaration ← declaration_of (at_line text line BadSyntax)
  with_declaration text d declaration
with_tokens text (stating s) line = do
  more ← with_stated text s line
  Ok (stating more)

-- what is known after a line that has these tokens; blank lines say nothing
abbrev pub with_any : List ℕ → Known → Line → List Token → Result Known TextFault
with_any text known line [] = Ok known
with_any text known line (token ∷ rest) = with_tokens text known line

-- what is known after a line
abbrev pub with_line : List ℕ → Known → Line → Result Known TextFault
with_line text known line = with_any text known line line.tokens

-- the machine of these statements
abbrev pub description : Stated → Description
description s = described (take s.over.elements s.over.scope.names) s.over.registers s.over.scope.shape (acts_of s.acts)

-- the machine of statements, unless an `if` is open
abbrev pub machine_unless : Stated → TextFault → Result Description TextFault
machine_unless s fault = if can_end s.open_ifs then Err fault else Ok (description s)

-- the machine of what is known at the end of a text, where that is a fault if something is missing
abbrev pub finished : Known → TextFault → Result Description TextFault
finished (stating s) fault = machine_unless s fault
finished other fault = Err fault

-- the machine of a text, or its first fault: those of its bytes, then those of its lines one after another, then that
-- of its end
unfoldable pub machine_of : List ℕ → Result Description TextFault
machine_of text = do
  lines ← token_lines text
  known ← steps (with_line text) nothing lines
  finished known (text_end lines BadSyntax)
