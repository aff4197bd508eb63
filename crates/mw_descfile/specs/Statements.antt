-- What a line of statements says.
use Rattle.std.specs.Prelude.{ℕ, ◌+◌, ◌-◌, ◌==◌, List, [], ◌∷◌, codes, take, drop, slice_get, Bool, if◌then◌else◌}
use Rattle.std.specs.Prelude.{Option, Some, None, Result, Ok, Err}
use Rattle.std.specs.Str.{bytes_eq}
use Rattle.mw_base.specs.declared.refusal.TextFault.{TextFault}
use Rattle.mw_base.specs.declared.sign.Sign.TheVariants as signs
use Rattle.mw_base.specs.declared.symbol.Symbol.{Symbol}
use Rattle.mw_base.specs.declared.symbol.Symbol.TheVariants.{Sign}
use Rattle.mw_base.specs.declared.token.Token.{Token}
use Rattle.mw_base.specs.Cursors.{Cursor, after, misplaced, token_at, has_sign, name_at, sign_at, end_at}
use Rattle.mw_base.specs.Reading.{◌>>=◌}
use Rattle.mw_base.specs.Symbols.{spelled, symbol_of}
use Rattle.mw_expr.specs.Placed.{Placed}
use Rattle.mw_descfile.specs.declared.scope.Scope.{Scope}
use Rattle.mw_descfile.specs.declared.said.Blocks.{Blocks}
use Rattle.mw_descfile.specs.declared.said.Keyword.{Keyword}
use Rattle.mw_descfile.specs.declared.said.Keyword.TheVariants as keywords
use Rattle.mw_descfile.specs.Expressions.{written_of}

-- What a line of statements says, with the tokens at which its faults stand.
pub data Said : Type 0 where
  -- an element gets a value: its name, the ":=" and the value
  to_assign : (name sign : Token) (value : Placed) → Said
  -- the memory gets a word: the word `mem`, the address, the ":=" and the value
  to_write : (word : Token) (address : Placed) (sign : Token) (value : Placed) → Said
  -- a word is put out: the word `put` and the value
  to_put : (word : Token) (value : Placed) → Said
  -- an element gets an input: the word `take` and its name
  to_take : (word name : Token) → Said
  -- an `if` begins: the word and the condition
  to_choose : (word : Token) (condition : Placed) → Said
  -- its second list begins
  to_turn : Said
  -- it ends
  to_end : Said

-- NAME := E
unfoldable pub assign_of : Scope → Cursor → Result Said TextFault
assign_of scope line = do
  target ← name_at 0 line
  sign ← sign_at signs.Assign 1 line
  value ← written_of scope (after 2 line)
  Ok (to_assign target sign value)

-- how many "[" are open after a token where so many were
abbrev pub open_after : Symbol → ℕ → ℕ
open_after (Sign signs.OpenBracket) n = n + 1
open_after (Sign signs.CloseBracket) n = n - 1
open_after _ n = n

-- how many of these tokens of a text stand before the "]" behind which no "[" is open, where so many are before them;
-- all where there is none
abbrev pub before_close : List ℕ → (open_now : ℕ) → List Token → ℕ
before_close text n [] = 0
before_close text n (token ∷ rest) =
    if open_after (symbol_of text token) n == 0 then 0
    else before_close text (open_after (symbol_of text token) n) rest + 1

-- how many tokens stand between the "[" that is token 1 of a line and the "]" that closes it
abbrev pub inside : Cursor → ℕ
inside line = before_close line.text 1 (drop 2 line.tokens)

-- the fault where something ends too early before this token, or at the line's end
abbrev pub fault_before : Cursor → Option Token → TextFault
fault_before line None = line.end
fault_before line (Some token) = misplaced token line

-- the first n tokens, which have to end there
abbrev pub first_tokens : ℕ → Cursor → Cursor
first_tokens n line = record line { tokens = take n line.tokens; end = fault_before line (slice_get line.tokens n) }

-- mem [ E ] := E
unfoldable pub write_of : Scope → Cursor → Result Said TextFault
write_of scope line = do
  word ← token_at 0 line
  bracket ← sign_at signs.OpenBracket 1 line
  address ← written_of scope (first_tokens (inside line) (after 2 line))
  closed ← sign_at signs.CloseBracket (inside line) (after 2 line)
  sign ← sign_at signs.Assign (inside line + 1) (after 2 line)
  value ← written_of scope (after (inside line + 2) (after 2 line))
  Ok (to_write word address sign value)

-- put E
unfoldable pub put_of : Scope → Cursor → Result Said TextFault
put_of scope line = do
  word ← token_at 0 line
  value ← written_of scope (after 1 line)
  Ok (to_put word value)

-- take NAME
unfoldable pub take_of : Cursor → Result Said TextFault
take_of line = do
  word ← token_at 0 line
  target ← name_at 1 line
  end ← end_at 2 line
  Ok (to_take word target)

-- if E
unfoldable pub if_of : Scope → Cursor → Result Said TextFault
if_of scope line = do
  word ← token_at 0 line
  condition ← written_of scope (after 1 line)
  Ok (to_choose word condition)

-- what can stand there, else this fault
abbrev pub allowed : Bool → TextFault → Result (Unit {0}) TextFault
allowed can_stand fault = if can_stand then Ok tt else Err fault

-- a word that stands alone, where it can stand there
unfoldable pub alone : Bool → Cursor → Result (Unit {0}) TextFault
alone can_stand line = do
  word ← token_at 0 line
  stands ← allowed can_stand (misplaced word line)
  end_at 1 line

-- a line of a word alone, which says this
abbrev pub alone_of : Bool → Said → Cursor → Result Said TextFault
alone_of can_stand said line = do
  stands ← alone can_stand line
  Ok said

-- the word with which a statement of its own kind begins
abbrev pub keyword_of : List ℕ → Option Keyword
keyword_of word =
    if bytes_eq word (codes "mem") then Some keywords.Mem
    else (if bytes_eq word (codes "put") then Some keywords.Put
    else (if bytes_eq word (codes "take") then Some keywords.Take
    else (if bytes_eq word (codes "if") then Some keywords.If
    else (if bytes_eq word (codes "else") then Some keywords.Else
    else (if bytes_eq word (codes "end") then Some keywords.End
    else None)))))

-- the one that the first of these tokens of a text is
abbrev pub keyword_first : List ℕ → List Token → Option Keyword
keyword_first text [] = None
keyword_first text (first ∷ rest) = keyword_of (spelled text first)

-- the one with which a line begins; before ":=" it is a name as any other
abbrev pub keyword_in : Cursor → Option Keyword
keyword_in line = if has_sign signs.Assign 1 line then None else keyword_first line.text line.tokens

-- what a line says that begins with this word, if it is one of those
abbrev pub said_after : Scope → Blocks → Cursor → Option Keyword → Result Said TextFault
said_after scope blocks line (Some keywords.Mem) = write_of scope line
said_after scope blocks line (Some keywords.Put) = put_of scope line
said_after scope blocks line (Some keywords.Take) = take_of line
said_after scope blocks line (Some keywords.If) = if_of scope line
said_after scope blocks line (Some keywords.Else) = alone_of blocks.can_else to_turn line
said_after scope blocks line (Some keywords.End) = alone_of blocks.can_end to_end line
said_after scope blocks line None = assign_of scope line

-- what a line of statements says, or where it leaves its grammar: at the first token that can't follow those before
-- it, or at its end
unfoldable pub said_of : Scope → Blocks → Cursor → Result Said TextFault
said_of scope blocks line = said_after scope blocks line (keyword_in line)
