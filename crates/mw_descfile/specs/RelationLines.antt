-- What a line of a relation says.
use Rattle.std.specs.Prelude.{ℕ, List, [], ◌∷◌, ◌++◌, codes, if◌then◌else◌, Option, Some, None, Result, Ok}
use Rattle.std.specs.Str.{bytes_eq}
use Rattle.mw_base.specs.declared.cursor.Dotted.{Dotted}
use Rattle.mw_base.specs.declared.cursor.Numeral.{Numeral}
use Rattle.mw_base.specs.declared.refusal.TextFault.{TextFault}
use Rattle.mw_base.specs.declared.sign.Sign.TheVariants.{Equals, Dot}
use Rattle.mw_base.specs.declared.token.Token.{Token}
use Rattle.mw_base.specs.Cursors.{Cursor, after, token_at, has_sign, number_at, sign_at, place_at, first_word}
use Rattle.mw_base.specs.Cursors.{element_of, end_at}
use Rattle.mw_base.specs.Reading.{◌>>=◌}
use Rattle.mw_base.specs.Symbols.{spelled, symbol_of, is_sign}
use Rattle.mw_expr.specs.Grammar.{number_by_name}
use Rattle.mw_expr.specs.Placed.{Placed}
use Rattle.mw_descfile.specs.declared.relation_line.Beginning.{Beginning}
use Rattle.mw_descfile.specs.declared.relation_line.BlockWord.{BlockWord}
use Rattle.mw_descfile.specs.declared.relation_line.BlockWord.TheVariants as words
use Rattle.mw_descfile.specs.declared.scope.Scope.{Scope}
use Rattle.mw_descfile.specs.declared.uses.Use.{Use}
use Rattle.mw_descfile.specs.Expressions.{written_of}

-- boundary PLACE BOUND
unfoldable pub beginning_of : Cursor → Result Beginning TextFault
beginning_of line = do
  word ← first_word (codes "boundary") line
  place ← place_at 1 line
  bound ← number_at 2 line
  end ← end_at 3 line
  Ok (record { word = word; place = place; bound = bound })

-- the number of the element OWNER . NAME, if there is one
abbrev pub dotted_number : List ℕ → List (List ℕ) → Token → Token → Option ℕ
dotted_number text names owner name = number_by_name names (spelled text owner ++ 46 ∷ spelled text name)

-- the use of an element, at its first token, if there is such an element
abbrev pub use_at : Token → Option ℕ → List Use
use_at owner None = []
use_at owner (Some number) = record { name = owner; number = number } ∷ []

-- the element NAME . NAME with which some tokens of a text begin, if they begin with one
abbrev pub use_first : List ℕ → List (List ℕ) → List Token → List Use
use_first text names (owner ∷ dot ∷ name ∷ rest) =
    if is_sign Dot (symbol_of text dot) then use_at owner (dotted_number text names owner name) else []
use_first text names fewer = []

-- the elements that stand in some tokens of a text, in their order
unfoldable pub uses_of : List ℕ → List (List ℕ) → List Token → List Use
uses_of text names [] = []
uses_of text names (token ∷ rest) = use_first text names (token ∷ rest) ++ uses_of text names rest

-- What a line of a boundary says, with the tokens at which its faults stand.
pub data Told : Type 0 where
  -- how many words are on the stack: the word `sp` and the number
  sp_line : (word : Token) (value : Numeral) → Told
  -- an element has a value: the element, the "=", the value, and the elements that stand in it
  equation_line : (element : Dotted) (sign : Token) (value : Placed) (uses : List Use) → Told
  -- the boundary ends: the word `end`
  end_line : (word : Token) → Told

-- sp N
unfoldable pub stack_pointer_of : Cursor → Result Told TextFault
stack_pointer_of line = do
  word ← token_at 0 line
  value ← number_at 1 line
  end ← end_at 2 line
  Ok (sp_line word value)

-- ELEMENT = E
unfoldable pub equation_of : Scope → Cursor → Result Told TextFault
equation_of scope line = do
  element ← element_of line
  sign ← sign_at Equals 3 line
  value ← written_of scope (after 4 line)
  Ok (equation_line element sign value (uses_of line.text scope.names (after 4 line).tokens))

-- end
unfoldable pub end_of : Cursor → Result Told TextFault
end_of line = do
  word ← token_at 0 line
  end ← end_at 1 line
  Ok (end_line word)

-- the word with which a line of its own kind begins
abbrev pub block_word_of : List ℕ → Option BlockWord
block_word_of word =
    if bytes_eq word (codes "sp") then Some words.StackPointer
    else (if bytes_eq word (codes "end") then Some words.End
    else None)

-- the one that the first of these tokens of a text is
abbrev pub block_word_first : List ℕ → List Token → Option BlockWord
block_word_first text [] = None
block_word_first text (first ∷ rest) = block_word_of (spelled text first)

-- the one with which a line begins; before "." it is a name as any other
abbrev pub block_word_in : Cursor → Option BlockWord
block_word_in line = if has_sign Dot 1 line then None else block_word_first line.text line.tokens

-- what a line says that begins with this word, if it is one of those
abbrev pub told_after : Scope → Cursor → Option BlockWord → Result Told TextFault
told_after scope line (Some words.StackPointer) = stack_pointer_of line
told_after scope line (Some words.End) = end_of line
told_after scope line None = equation_of scope line

-- what a line of a boundary says, or where it leaves its grammar: at the first token that can't follow those before
-- it, or at its end
unfoldable pub told_of : Scope → Cursor → Result Told TextFault
told_of scope line = told_after scope line (block_word_in line)
