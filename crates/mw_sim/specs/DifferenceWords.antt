-- How reports name what differs between two sides: an event, an element of the board, or a word of the memory.
use Rattle.std.specs.Prelude.{ℕ, List, [], ◌++◌, codes}
use Rattle.std.specs.Option.{unwrap_or}
use Rattle.mw_base.specs.Numbers.{hex, decimal}
use Rattle.mw_board.specs.declared.parts.BoardParts.{BoardParts}
use Rattle.mw_board.specs.Elements.{element_name}

-- the event with a number, from 0
abbrev pub event_words : ℕ → List ℕ
event_words n = codes "event " ++ decimal n

-- the element of a board with a number
abbrev pub element_words : BoardParts → ℕ → List ℕ
element_words board e = codes "element b." ++ unwrap_or (element_name board e) []

-- the word of a memory at an address
abbrev pub memory_words : ℕ → List ℕ
memory_words address = codes "memory " ++ hex address
