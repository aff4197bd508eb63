-- The control store.
use Rattle.std.specs.Prelude.{ℕ, List, slice_index_or}
use Rattle.mw_board.specs.declared.parts.BoardParts.{BoardParts}

-- the microword at a control address: the fill word past the last assembled one
abbrev pub word_at : BoardParts → List ℕ → ℕ → ℕ
word_at board store at = slice_index_or store at board.fill
