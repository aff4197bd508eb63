-- What runs of a board on terms work on.
use Rattle.std.specs.Prelude.{◌≡◌, List}
use Rattle.mw_board.specs.declared.parts.BoardParts.{BoardParts}
use Rattle.mw_space.specs.declared.space.Space.{Space}
use Rattle.mw_symmem.specs.Listed.{list_in}
use Rattle.mw_symmem.specs.Memory.{Memory}
use Rattle.mw_symmem.specs.Workspace.{IsWorkspace}
use Rattle.mw_term.specs.declared.word.Word.{Word}
use Rattle.mw_term.specs.Table.{Table}
use Rattle.mw_term.specs.WordList.{WordList}

-- a table with a board's map, the words of its terms, and a memory with the board's widths over them
pub record IsSpaceOf (board : BoardParts) (t : Table) (words : List Word) (m : Memory) : Type 0 where
  pub map : t.map ≡ board.map_entries
  pub address : m.address ≡ board.address
  pub word : m.word ≡ board.width
  pub workspace : IsWorkspace t words m

-- the word list of what a run works on
abbrev pub list_of_space : Space → WordList
list_of_space space = list_in space.terms space.words space.memory
