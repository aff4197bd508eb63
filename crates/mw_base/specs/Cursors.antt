-- What a grammar asks of the tokens of a line.
use Rattle.std.specs.Prelude.{ℕ, List, drop, slice_get, option_map, Bool, true, false, if◌then◌else◌, Option, Some}
use Rattle.std.specs.Prelude.{None, ok_or, Result, Ok, Err}
use Rattle.std.specs.Str.{bytes_eq}
use Rattle.mw_base.specs.declared.cause.Cause.{Cause}
use Rattle.mw_base.specs.declared.cursor.Dotted.{Dotted}
use Rattle.mw_base.specs.declared.cursor.Numeral.{Numeral}
use Rattle.mw_base.specs.declared.line.Line.{Line}
use Rattle.mw_base.specs.declared.place.Place.{Place}
use Rattle.mw_base.specs.declared.place.Place.TheVariants.{Label, Address}
use Rattle.mw_base.specs.declared.refusal.TextFault.{TextFault}
use Rattle.mw_base.specs.declared.sign.Sign.{Sign}
use Rattle.mw_base.specs.declared.sign.Sign.TheVariants.{Dot}
use Rattle.mw_base.specs.declared.symbol.Symbol.{Symbol}
use Rattle.mw_base.specs.declared.symbol.Symbol.TheVariants as symbols
use Rattle.mw_base.specs.declared.token.Token.{Token}
use Rattle.mw_base.specs.Reading.{◌>>=◌}
use Rattle.mw_base.specs.Symbols.{symbol_of, is_sign, spelled}
use Rattle.mw_base.specs.TokenLines.{fault_on, end_fault}

-- the tokens of a line from one on, the text in which they stand, and the fault of a line that ends too early
pub record Cursor : Type 0 where
  pub text : List ℕ
  pub tokens : List Token
  pub end : TextFault

-- the whole line, for a grammar whose faults have this cause
abbrev pub at_line : List ℕ → Line → Cause → Cursor
at_line text line cause = record { text = text; tokens = line.tokens; end = end_fault line cause }

-- what follows n tokens
abbrev pub after : ℕ → Cursor → Cursor
after n cursor = record cursor { tokens = drop n cursor.tokens }

-- the fault of a token that can't stand where it does
abbrev pub misplaced : Token → Cursor → TextFault
misplaced token cursor = fault_on token cursor.end.cause

-- token n, from 0; a line that ends before it is at fault there
abbrev pub token_at : ℕ → Cursor → Result Token TextFault
token_at n cursor = ok_or (slice_get cursor.tokens n) cursor.end

-- what token n is to the grammar; nothing where the line ends before it
abbrev pub symbol_at : ℕ → Cursor → Option Symbol
symbol_at n cursor = option_map (symbol_of cursor.text) (slice_get cursor.tokens n)

-- whether there is a symbol, and it is this sign
abbrev pub is_this : Sign → Option Symbol → Bool
is_this sign None = false
is_this sign (Some symbol) = is_sign sign symbol

-- whether there is a symbol, and it is a name
abbrev pub is_name : Option Symbol → Bool
is_name (Some symbols.Name) = true
is_name symbol = false

-- whether token n is a name
abbrev pub has_name : ℕ → Cursor → Bool
has_name n cursor = is_name (symbol_at n cursor)

-- whether token n is this sign
abbrev pub has_sign : Sign → ℕ → Cursor → Bool
has_sign sign n cursor = is_this sign (symbol_at n cursor)

-- a token that has to be a name
abbrev pub name_token : Cursor → Token → Symbol → Result Token TextFault
name_token cursor token symbols.Name = Ok token
name_token cursor token symbol = Err (misplaced token cursor)

-- one that has to be a number
abbrev pub number_token : Cursor → Token → Symbol → Result Numeral TextFault
number_token cursor token (symbols.Number value) = Ok (record { token = token; value = value })
number_token cursor token symbol = Err (misplaced token cursor)

-- one that has to be the name of a label or an address
abbrev pub place_token : Cursor → Token → Symbol → Result Place TextFault
place_token cursor token symbols.Name = Ok (Label token)
place_token cursor token (symbols.Number value) = Ok (Address (record { token = token; value = value }))
place_token cursor token symbol = Err (misplaced token cursor)

-- token n, which has to be a name
unfoldable pub name_at : ℕ → Cursor → Result Token TextFault
name_at n cursor = do
  token ← token_at n cursor
  name_token cursor token (symbol_of cursor.text token)

-- token n, which has to be a number
unfoldable pub number_at : ℕ → Cursor → Result Numeral TextFault
number_at n cursor = do
  token ← token_at n cursor
  number_token cursor token (symbol_of cursor.text token)

-- token n, which has to be this sign
unfoldable pub sign_at : Sign → ℕ → Cursor → Result Token TextFault
sign_at sign n cursor = do
  token ← token_at n cursor
  if is_sign sign (symbol_of cursor.text token) then Ok token else Err (misplaced token cursor)

-- token n, which has to be a PLACE: a name or a number
unfoldable pub place_at : ℕ → Cursor → Result Place TextFault
place_at n cursor = do
  token ← token_at n cursor
  place_token cursor token (symbol_of cursor.text token)

-- the first token, which has to be this word
unfoldable pub first_word : List ℕ → Cursor → Result Token TextFault
first_word word cursor = do
  first ← token_at 0 cursor
  if bytes_eq (spelled cursor.text first) word then Ok first else Err (misplaced first cursor)

-- the first tokens, which have to be NAME . NAME
unfoldable pub element_of : Cursor → Result Dotted TextFault
element_of cursor = do
  owner ← name_at 0 cursor
  dot ← sign_at Dot 1 cursor
  name ← name_at 2 cursor
  Ok (record { owner = owner; name = name })

-- no token, since the line has to end
abbrev pub no_token : Cursor → Option Token → Result (Unit {0}) TextFault
no_token cursor None = Ok tt
no_token cursor (Some token) = Err (misplaced token cursor)

-- the line has to end before token n
unfoldable pub end_at : ℕ → Cursor → Result (Unit {0}) TextFault
end_at n cursor = no_token cursor (slice_get cursor.tokens n)
