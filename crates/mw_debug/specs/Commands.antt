-- What a line of a script says, by its tokens.
use Rattle.std.specs.Prelude.{ℕ, List, codes, slice_get, Bool, false, not, ◌&&◌, if◌then◌else◌, Option, Some, None}
use Rattle.std.specs.Prelude.{Result, Ok, Err}
use Rattle.std.specs.Str.{bytes_eq}
use Rattle.mw_base.specs.declared.cursor.Dotted.{Dotted}
use Rattle.mw_base.specs.declared.cursor.Numeral.{Numeral}
use Rattle.mw_base.specs.declared.refusal.TextFault.{TextFault}
use Rattle.mw_base.specs.declared.sign.Sign.TheVariants.{Dot}
use Rattle.mw_base.specs.declared.token.Token.{Token}
use Rattle.mw_base.specs.Cursors.{Cursor, after, misplaced, has_sign, number_at, place_at, element_of, end_at}
use Rattle.mw_base.specs.Reading.{◌>>=◌}
use Rattle.mw_base.specs.Symbols.{spelled}
use Rattle.mw_debug.specs.declared.command.Command.{Command}
use Rattle.mw_debug.specs.declared.command.Command.TheVariants as commands
use Rattle.mw_debug.specs.declared.command.Keyword.{Keyword}
use Rattle.mw_debug.specs.declared.command.Keyword.TheVariants as keywords

-- N, and the line's end
unfoldable pub count_alone : Cursor → Result Numeral TextFault
count_alone line = do
  count ← number_at 1 line
  end ← end_at 2 line
  Ok count

-- ELEMENT, and the line's end
unfoldable pub element_alone : Cursor → Result Dotted TextFault
element_alone line = do
  element ← element_of (after 1 line)
  end ← end_at 4 line
  Ok element

-- until PLACE N
unfoldable pub until_of : Cursor → Result Command TextFault
until_of line = do
  place ← place_at 1 line
  limit ← number_at 2 line
  end ← end_at 3 line
  Ok (commands.Until place limit)

-- set ELEMENT VALUE
unfoldable pub set_of : Cursor → Result Command TextFault
set_of line = do
  element ← element_of (after 1 line)
  value ← number_at 4 line
  end ← end_at 5 line
  Ok (commands.Set element value)

-- show mem ADDRESS
unfoldable pub memory_shown_of : Cursor → Result Command TextFault
memory_shown_of line = do
  address ← number_at 2 line
  end ← end_at 3 line
  Ok (commands.ShowMemory address)

-- whether there is a token, and it is this word
abbrev pub is_word : List ℕ → List ℕ → Option Token → Bool
is_word text word (Some token) = bytes_eq (spelled text token) word
is_word text word None = false

-- whether a line that shows something shows a word of the memory: a name before a dot is that of an element's owner
abbrev pub shows_memory : Cursor → Bool
shows_memory line = is_word line.text (codes "mem") (slice_get line.tokens 1) && not (has_sign Dot 2 line)

-- show ELEMENT or show mem ADDRESS
unfoldable pub show_of : Cursor → Result Command TextFault
show_of line =
    if shows_memory line then memory_shown_of line
    else (element_alone line >>= λ element. Ok (commands.Show element))

-- the keyword of these bytes
abbrev pub keyword_of : List ℕ → Option Keyword
keyword_of name =
    if bytes_eq name (codes "step") then Some keywords.Step
    else (if bytes_eq name (codes "until") then Some keywords.Until
    else (if bytes_eq name (codes "set") then Some keywords.Set
    else (if bytes_eq name (codes "show") then Some keywords.Show
    else (if bytes_eq name (codes "watch") then Some keywords.Watch
    else (if bytes_eq name (codes "back") then Some keywords.Back
    else None)))))

-- the command of a line that begins with this token, which is this keyword, if any
abbrev pub command_after : Cursor → Token → Option Keyword → Result Command TextFault
command_after line first (Some keywords.Step) = count_alone line >>= λ count. Ok (commands.Step count)
command_after line first (Some keywords.Until) = until_of line
command_after line first (Some keywords.Set) = set_of line
command_after line first (Some keywords.Show) = show_of line
command_after line first (Some keywords.Watch) =
    element_alone line >>= λ element. Ok (commands.Watch element)
command_after line first (Some keywords.Back) = count_alone line >>= λ count. Ok (commands.Back count)
command_after line first None = Err (misplaced first line)

-- what was read, or this fault in place of any other
abbrev pub or_fault : {A : Type 0} → TextFault → Result A TextFault → Result A TextFault
or_fault fault (Ok x) = Ok x
or_fault fault (Err other) = Err fault

-- the command of a line that begins with this token; a line that is none is at fault there, whichever token
-- can't follow
unfoldable pub command_of : Cursor → Token → Result Command TextFault
command_of line first =
    or_fault (misplaced first line) (command_after line first (keyword_of (spelled line.text first)))
