-- The question of a text.
use Rattle.std.specs.Prelude.{ℕ, List, [], ◌∷◌, ◌++◌, codes, length, Bool, ◌&&◌, ◌||◌, nat_le, nat_lt, if◌then◌else◌}
use Rattle.std.specs.Prelude.{Option, Some, None, Result, Ok, Err}
use Rattle.std.specs.Str.{bytes_eq}
use Rattle.mw_base.specs.declared.cause.Cause.TheVariants.{TooMany, ValueTooWide, BadSyntax}
use Rattle.mw_base.specs.declared.cursor.Numeral.{Numeral}
use Rattle.mw_base.specs.declared.line.Line.{Line}
use Rattle.mw_base.specs.declared.refusal.TextFault.{TextFault}
use Rattle.mw_base.specs.declared.token.Token.{Token}
use Rattle.mw_base.specs.Cursors.{Cursor, at_line, after, misplaced, name_at, number_at, first_word, end_at}
use Rattle.mw_base.specs.FirstFaults.{first_in}
use Rattle.mw_base.specs.Named.{new_name}
use Rattle.mw_base.specs.Reading.{◌>>=◌}
use Rattle.mw_base.specs.Steps.{steps}
use Rattle.mw_base.specs.Symbols.{spelled}
use Rattle.mw_base.specs.TokenLines.{fault_on, text_end, token_lines}
use Rattle.mw_expr.specs.declared.shape.Shape.{Shape}
use Rattle.mw_expr.specs.Faults.{broken, faults, is_other, seen_width}
use Rattle.mw_expr.specs.Grammar.{meaning_of, number_by_name, tree_of}
use Rattle.mw_expr.specs.Placed.{Placed}
use Rattle.mw_expr.specs.Plain.{plain}
use Rattle.mw_expr.specs.Tree.{Tree}
use Rattle.mw_check.specs.Question.{Asked}

-- ---- what is known after some lines

-- variables, in file order: their names and widths
pub record Variables : Type 0 where
  pub names : List (List ℕ)
  pub widths : List ℕ

-- a side, and its width
pub record Side : Type 0 where
  pub tree : Tree
  pub width : Option ℕ

-- the variables and the left side
pub record Half : Type 0 where
  pub names : List (List ℕ)
  pub shape : Shape
  pub left : Side

-- what is known: variables, to which others may come; a left side too; or all that is asked
pub data Known : Type 0 where
  declaring : Variables → Known
  halved : Half → Known
  whole : Asked → Known

-- ---- variables

-- none
abbrev pub no_variables : Variables
no_variables = record { names = []; widths = [] }

-- 64 variables are the most; the name of another is one too many
abbrev pub few : List (List ℕ) → Token → Result (Unit {0}) TextFault
few names name = if nat_lt (length names) 64 then Ok tt else Err (fault_on name TooMany)

-- a name that no variable has
abbrev pub is_reserved : List ℕ → Bool
is_reserved name = bytes_eq name (codes "mem") || bytes_eq name (codes "zext")

-- the width of a variable, 1 to 32 bits
abbrev pub width_in : Numeral → Result ℕ TextFault
width_in number =
    if nat_le 1 number.value && nat_le number.value 32 then Ok number.value else Err
    (fault_on number.token ValueTooWide)

-- one variable more: there are few, the name is new and short and not reserved, and the width is 1 to 32
unfoldable pub with_variable : List ℕ → Token → Numeral → Variables → Result Variables TextFault
with_variable text name width v = do
  room ← few v.names name
  is_new ← new_name text (number_by_name v.names) (is_reserved (spelled text name)) name
  bits ← width_in width
  Ok (record { names = v.names ++ spelled text name ∷ []; widths = v.widths ++ bits ∷ [] })

-- what expressions are over: the variables, and no memory
abbrev pub shape_over : List ℕ → Shape
shape_over widths = record { widths = widths; address = 0; word = 0 }

-- ---- sides

-- another width than the one before, where there are both, is a fault at this word
abbrev pub uneven : Option ℕ → Token → Option ℕ → List TextFault
uneven (Some width) word seen = broken (is_other width seen) word
uneven None word seen = []

-- the first fault of a side after this word: one of its own, or that it isn't as wide as the side before
abbrev pub first_of_side : Shape → Option ℕ → Token → Placed → Option TextFault
first_of_side s before word tree = first_in None (faults s (Some 64) tree ++ uneven before word (seen_width s tree))

-- a side, unless there is a fault
abbrev pub side_unless : Option TextFault → Shape → Placed → Result Side TextFault
side_unless None s tree = Ok (record { tree = plain tree; width = seen_width s tree })
side_unless (Some fault) s tree = Err fault

-- the side that the tokens after a word are, where the side before has this width
unfoldable pub side_of : List (List ℕ) → Shape → Option ℕ → Token → Cursor → Result Side TextFault
side_of names s before word rest = do
  tree ← tree_of (meaning_of rest.text names s.address) rest
  side_unless (first_of_side s before word tree) s tree

-- ---- lines

-- var NAME W
unfoldable pub variable_line : Variables → Cursor → Result Known TextFault
variable_line v line = do
  name ← name_at 1 line
  width ← number_at 2 line
  end ← end_at 3 line
  more ← with_variable line.text name width v
  Ok (declaring more)

-- left E
unfoldable pub left_line : Variables → Token → Cursor → Result Known TextFault
left_line v word line = do
  left ← side_of v.names (shape_over v.widths) None word (after 1 line)
  Ok (halved (record { names = v.names; shape = shape_over v.widths; left = left }))

-- a line before the sides: another variable, or the left side
unfoldable pub first_line : Variables → Cursor → Result Known TextFault
first_line v line = do
  word ← name_at 0 line
  if bytes_eq (spelled line.text word) (codes "var") then variable_line v line
      else (if bytes_eq (spelled line.text word) (codes "left") then left_line v word line
      else Err (misplaced word line))

-- right E
unfoldable pub right_line : Half → Cursor → Result Known TextFault
right_line h line = do
  word ← first_word (codes "right") line
  right ← side_of h.names h.shape h.left.width word (after 1 line)
  Ok (whole (record { names = h.names; shape = h.shape; left = h.left.tree; right = right.tree }))

-- a line after the sides, which has to be blank
unfoldable pub last_line : Asked → Cursor → Result Known TextFault
last_line q line = do
  end ← end_at 0 line
  Ok (whole q)

-- what is known after a line that isn't blank: first the variables, then the left side, then the right one, then
-- nothing
abbrev pub with_tokens : Known → Cursor → Result Known TextFault
with_tokens (declaring v) line = first_line v line
with_tokens (halved h) line = right_line h line
with_tokens (whole q) line = last_line q line

-- what is known after a line that has these tokens; blank lines say nothing
abbrev pub with_any : List ℕ → Known → Line → List Token → Result Known TextFault
with_any text known line [] = Ok known
with_any text known line (token ∷ rest) = with_tokens known (at_line text line BadSyntax)

-- what is known after a line
abbrev pub with_line : List ℕ → Known → Line → Result Known TextFault
with_line text known line = with_any text known line line.tokens

-- ---- texts

-- all that is asked, where the end of the text is at fault if a side is missing
abbrev pub finished : Known → TextFault → Result Asked TextFault
finished (whole q) fault = Ok q
finished other fault = Err fault

-- the question of a text, or its first fault: those of its bytes, then those of its lines one after another, then that
-- of its end
unfoldable pub question_of : List ℕ → Result Asked TextFault
question_of text = do
  lines ← token_lines text
  known ← steps (with_line text) (declaring no_variables) lines
  finished known (text_end lines BadSyntax)
