-- A program on a board.
use Rattle.std.specs.Prelude.{ℕ, List}
use Rattle.mw_board.specs.declared.parts.BoardParts.{BoardParts}

-- the board, the microwords from address 0 on, and the control addresses of the boundaries
pub record Program : Type 0 where
  pub board : BoardParts
  pub store : List ℕ
  pub addresses : List ℕ
