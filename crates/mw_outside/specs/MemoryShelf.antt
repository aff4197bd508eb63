-- What a shelf in memory keeps.
use Rattle.std.specs.Prelude.{ℕ, List, Option}
use Rattle.mw_outside.specs.declared.memory.MemoryShelf.{MemoryShelf}
use Rattle.mw_outside.specs.Calls.{Account}
use Rattle.mw_outside.specs.Files as files

-- the bytes that were set for the name
abbrev pub contents : MemoryShelf → List ℕ → Option (List ℕ)
contents shelf name = files.contents shelf.files name

-- its calls
abbrev pub calls_of : MemoryShelf → Account
calls_of shelf = shelf.calls
