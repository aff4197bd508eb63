-- What a line of a KEEP text says inside a block.
use Rattle.std.specs.Prelude.{ℕ, List, codes, if◌then◌else◌, Option, Some, None, Result, Ok, Err}
use Rattle.std.specs.Str.{bytes_eq}
use Rattle.mw_base.specs.declared.refusal.TextFault.{TextFault}
use Rattle.mw_base.specs.declared.token.Token.{Token}
use Rattle.mw_base.specs.Cursors.{Cursor, after, misplaced, token_at, number_at, element_of, end_at}
use Rattle.mw_base.specs.Reading.{◌>>=◌}
use Rattle.mw_base.specs.Symbols.{spelled}
use Rattle.mw_revise.specs.declared.said.BlockWord.{BlockWord}
use Rattle.mw_revise.specs.declared.said.BlockWord.TheVariants as words
use Rattle.mw_revise.specs.declared.said.Said.{Said}
use Rattle.mw_revise.specs.declared.said.Said.TheVariants.{StackPointer, Equal, Fixed, End}

-- sp N
unfoldable pub stack_pointer_of : Token → Cursor → Result Said TextFault
stack_pointer_of word line = do
  value ← number_at 1 line
  end ← end_at 2 line
  Ok (StackPointer word value)

-- keep ELEMENT
unfoldable pub equal_of : Token → Cursor → Result Said TextFault
equal_of word line = do
  element ← element_of (after 1 line)
  end ← end_at 4 line
  Ok (Equal word element)

-- fixed ELEMENT OLD NEW
unfoldable pub fixed_of : Token → Cursor → Result Said TextFault
fixed_of word line = do
  element ← element_of (after 1 line)
  old_value ← number_at 4 line
  new_value ← number_at 5 line
  end ← end_at 6 line
  Ok (Fixed word element old_value new_value)

-- end
unfoldable pub end_of : Token → Cursor → Result Said TextFault
end_of word line = do
  end ← end_at 1 line
  Ok (End word)

-- which word with which a line of a block can begin these bytes are
abbrev pub block_word_of : List ℕ → Option BlockWord
block_word_of word =
    if bytes_eq word (codes "sp") then Some words.StackPointer
    else (if bytes_eq word (codes "keep") then Some words.Keep
    else (if bytes_eq word (codes "fixed") then Some words.Fixed
    else (if bytes_eq word (codes "end") then Some words.End
    else None)))

-- what a line says that begins with this word, if it is one of those
abbrev pub said_after : Cursor → Token → Option BlockWord → Result Said TextFault
said_after line word (Some words.StackPointer) = stack_pointer_of word line
said_after line word (Some words.Keep) = equal_of word line
said_after line word (Some words.Fixed) = fixed_of word line
said_after line word (Some words.End) = end_of word line
said_after line word None = Err (misplaced word line)

-- what a line of a block says, or where it leaves its grammar: at the first token that can't follow those before it,
-- or at its end
unfoldable pub said_of : Cursor → Result Said TextFault
said_of line = do
  word ← token_at 0 line
  said_after line word (block_word_of (spelled line.text word))
