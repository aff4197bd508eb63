-- What a shelf that never fails keeps.
use Rattle.std.specs.Prelude.{ℕ, List, [], unwrap_or}
use Rattle.mw_outside.specs.declared.steady.SteadyShelf.{SteadyShelf}
use Rattle.mw_outside.specs.Files as files

-- the bytes that were set for the name; none where none were
abbrev pub contents : SteadyShelf → List ℕ → List ℕ
contents shelf name = unwrap_or (files.contents shelf.files name) []
