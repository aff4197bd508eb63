-- What a line says.
use Rattle.std.specs.Prelude.{ℕ, List, [], ◌∷◌, Bool, true, false, ◌&&◌, if◌then◌else◌, codes, Option, Some, None}
use Rattle.std.specs.Prelude.{Result, Ok}
use Rattle.std.specs.Str.{bytes_eq}
use Rattle.mw_base.specs.declared.refusal.TextFault.{TextFault}
use Rattle.mw_base.specs.declared.sign.Sign.TheVariants.{Equals, Colon, Comma}
use Rattle.mw_base.specs.declared.symbol.Symbol.{Symbol}
use Rattle.mw_base.specs.declared.symbol.Symbol.TheVariants.{Sign}
use Rattle.mw_base.specs.declared.token.Token.{Token}
use Rattle.mw_base.specs.Cursors.{Cursor, after, token_at, symbol_at, has_name, has_sign, name_at, sign_at, number_at}
use Rattle.mw_base.specs.Cursors.{end_at}
use Rattle.mw_base.specs.Reading.{◌>>=◌}
use Rattle.mw_base.specs.Symbols.{spelled}
use Rattle.mw_asm.specs.declared.statement.Keyword.{Keyword}
use Rattle.mw_asm.specs.declared.statement.Keyword.TheVariants as keywords
use Rattle.mw_asm.specs.declared.statement.Statement.{Statement}
use Rattle.mw_asm.specs.declared.statement.Statement.TheVariants.{Equ, Def, Org, Word}
use Rattle.mw_asm.specs.Items.{items_of, optional_items}

-- equ NAME = NUMBER
unfoldable pub equ_of : Cursor → Result Statement TextFault
equ_of line = do
  name ← name_at 1 line
  equals ← sign_at Equals 2 line
  number ← number_at 3 line
  end ← end_at 4 line
  Ok (Equ name number.value)

-- def NAME = ITEMS
unfoldable pub def_of : Cursor → Result Statement TextFault
def_of line = do
  name ← name_at 1 line
  equals ← sign_at Equals 2 line
  items ← items_of (after 3 line)
  Ok (Def name items)

-- org NUMBER
unfoldable pub org_of : Cursor → Result Statement TextFault
org_of line = do
  address ← number_at 1 line
  end ← end_at 2 line
  Ok (Org address)

-- NAME: and then ITEMS or nothing
unfoldable pub labelled_of : Cursor → Result Statement TextFault
labelled_of line = do
  name ← token_at 0 line
  items ← optional_items (after 2 line)
  Ok (Word (Some name) items)

-- ITEMS, or nothing
unfoldable pub unlabelled_of : Cursor → Result Statement TextFault
unlabelled_of line = do
  items ← optional_items line
  Ok (Word None items)

-- the keyword of these bytes
abbrev pub keyword_of : List ℕ → Option Keyword
keyword_of name =
    if bytes_eq name (codes "equ") then Some keywords.Equ
    else (if bytes_eq name (codes "def") then Some keywords.Def
    else (if bytes_eq name (codes "org") then Some keywords.Org
    else None))

-- before "=", ":", "," or the line's end a keyword is a name as any other
abbrev pub leaves_keyword : Option Symbol → Bool
leaves_keyword None = false
leaves_keyword (Some (Sign Equals)) = false
leaves_keyword (Some (Sign Colon)) = false
leaves_keyword (Some (Sign Comma)) = false
leaves_keyword (Some symbol) = true

-- the keyword that the first of these tokens of a text is
abbrev pub keyword_first : List ℕ → List Token → Option Keyword
keyword_first text [] = None
keyword_first text (first ∷ rest) = keyword_of (spelled text first)

-- the keyword with which a line begins
abbrev pub keyword_in : Cursor → Option Keyword
keyword_in line = if leaves_keyword (symbol_at 1 line) then keyword_first line.text line.tokens else None

-- what a line says that begins with this keyword, if any
abbrev pub statement_after : Cursor → Option Keyword → Result Statement TextFault
statement_after line (Some keywords.Equ) = equ_of line
statement_after line (Some keywords.Def) = def_of line
statement_after line (Some keywords.Org) = org_of line
statement_after line None = if has_name 0 line && has_sign Colon 1 line then labelled_of line else unlabelled_of line

-- what a line says, or where it leaves its grammar: at the first token that can't follow those before it, or at its end
unfoldable pub statement_of : Cursor → Result Statement TextFault
statement_of line = statement_after line (keyword_in line)
