-- How deep a board's stack is.
use Rattle.std.specs.Prelude.{ℕ, if◌then◌else◌, ◌==◌}
use Rattle.mw_board.specs.declared.parts.BoardParts.{BoardParts}

-- how many words the sequencer's stack has: nine on a board with an Am2910A, else five
unfoldable pub depth_of : BoardParts → ℕ
depth_of board = if board.stack == 9 then 9 else 5
