-- What a line of an environment, a start or a counter says, behind their heads.
use Rattle.std.specs.Prelude.{ℕ, List, [], ◌∷◌, ◌++◌, if◌then◌else◌, codes, Option, Some, None, option_map, Result, Ok}
use Rattle.std.specs.Prelude.{Err}
use Rattle.std.specs.Str.{bytes_eq}
use Rattle.mw_base.specs.declared.cursor.Numeral.{Numeral}
use Rattle.mw_base.specs.declared.refusal.TextFault.{TextFault}
use Rattle.mw_base.specs.declared.token.Token.{Token}
use Rattle.mw_base.specs.Cursors.{Cursor, after, misplaced, token_at, number_token, number_at, element_of, end_at}
use Rattle.mw_base.specs.Reading.{◌>>=◌}
use Rattle.mw_base.specs.Steps.{steps}
use Rattle.mw_base.specs.Symbols.{spelled, symbol_of}
use Rattle.mw_cycle.specs.declared.series.Series.{Series}
use Rattle.mw_cycle.specs.Series.{series_named}
use Rattle.mw_sim.specs.declared.lines.Keyword.{Keyword}
use Rattle.mw_sim.specs.declared.lines.Keyword.TheVariants as keywords
use Rattle.mw_sim.specs.declared.lines.Statement.{Statement}
use Rattle.mw_sim.specs.declared.lines.Statement.TheVariants as statements

-- one number more, which a token has to be
unfoldable pub with_number : Cursor → List Numeral → Token → Result (List Numeral) TextFault
with_number line numbers token = do
  number ← number_token line token (symbol_of line.text token)
  Ok (numbers ++ (number ∷ []))

-- the numbers that these tokens are, each of which has to be one
abbrev pub numbers_in : Cursor → List Token → Result (List Numeral) TextFault
numbers_in line tokens = steps (with_number line) [] tokens

-- VALUE .. up to the line's end: one number, or several
unfoldable pub numbers_of : Cursor → Result (List Numeral) TextFault
numbers_of line = do
  first ← token_at 0 line
  numbers_in line line.tokens

-- set ELEMENT VALUE
unfoldable pub set_of : Cursor → Result Statement TextFault
set_of line = do
  element ← element_of (after 1 line)
  value ← number_at 4 line
  end ← end_at 5 line
  Ok (statements.Set element value)

-- mem ADDRESS VALUE ..
unfoldable pub memory_of : Cursor → Result Statement TextFault
memory_of line = do
  address ← number_at 1 line
  values ← numbers_of (after 2 line)
  Ok (statements.Memory address values)

-- a list's keyword, and VALUE ..
unfoldable pub series_of : Series → Cursor → Result Statement TextFault
series_of series line = do
  values ← numbers_of (after 1 line)
  Ok (statements.Series series values)

-- the keyword of these bytes
abbrev pub keyword_of : List ℕ → Option Keyword
keyword_of name =
    if bytes_eq name (codes "set") then Some keywords.Set
    else (if bytes_eq name (codes "mem") then Some keywords.Memory
    else option_map keywords.Series (series_named name))

-- what a line says that begins with this token, which is this keyword, if any
abbrev pub statement_after : Cursor → Token → Option Keyword → Result Statement TextFault
statement_after line first (Some keywords.Set) = set_of line
statement_after line first (Some keywords.Memory) = memory_of line
statement_after line first (Some (keywords.Series series)) = series_of series line
statement_after line first None = Err (misplaced first line)

-- what a line of these tokens says: a blank one nothing
abbrev pub statement_in : Cursor → List Token → Result Statement TextFault
statement_in line [] = Ok statements.Blank
statement_in line (first ∷ rest) = statement_after line first (keyword_of (spelled line.text first))

-- what a line says, or where it leaves its grammar: at the first token that can't follow those before it, or at its end
unfoldable pub statement_of : Cursor → Result Statement TextFault
statement_of line = statement_in line line.tokens
