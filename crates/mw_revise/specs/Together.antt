-- When a state of the old program and one of the new program stand together at a boundary.
use Rattle.std.specs.Prelude.{◌≡◌, Bool, ◌==◌, ◌&&◌, All}
use Rattle.mw_board.specs.declared.parts.BoardParts.{BoardParts}
use Rattle.mw_cycle.specs.Elements.{element}
use Rattle.mw_cycle.specs.State.{BoardState, Fits}
use Rattle.mw_revise.specs.declared.keep.Block.{Block}
use Rattle.mw_revise.specs.declared.keep.KeepLine.{KeepLine}
use Rattle.mw_revise.specs.declared.keep.KeepLine.TheVariants.{Equal, Fixed}

-- a kept element is equal in both states, and a fixed one has its value in each
abbrev pub Holds : BoardParts → (old_state new_state : BoardState) → KeepLine → Type 0
Holds board old_state new_state (Equal number) = element board old_state number ≡ element board new_state number
Holds board old_state new_state (Fixed number old_value new_value) =
    (element board old_state number ≡ old_value) × (element board new_state number ≡ new_value)

-- the same as a test
abbrev pub line_holds : BoardParts → (old_state new_state : BoardState) → KeepLine → Bool
line_holds board old_state new_state (Equal number) = element board old_state number == element board new_state number
line_holds board old_state new_state (Fixed number old_value new_value) =
    (element board old_state number == old_value) && (element board new_state number == new_value)

-- each state fits the board, and is at the boundary's address in its own program; both stack pointers are the
-- boundary's number; each line line_holds; and the memories are equal
pub record StandTogether (board : BoardParts) (block : Block) (old_state new_state : BoardState) : Type 0 where
  pub old_fits : Fits board old_state
  pub new_fits : Fits board new_state
  pub old_at : old_state.at ≡ block.before
  pub new_at : new_state.at ≡ block.after
  pub old_sp : old_state.seq.sp ≡ block.sp
  pub new_sp : new_state.seq.sp ≡ block.sp
  pub lines : All (Holds board old_state new_state) block.lines
  pub memory : old_state.memory ≡ new_state.memory
