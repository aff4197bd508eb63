-- The ranges that what was read of a KEEP text keeps.
use Rattle.std.specs.Prelude.{◌<◌, ◌≤◌, ◌^◌, length, All, IfSome}
use Rattle.mw_board.specs.declared.parts.BoardParts.{BoardParts}
use Rattle.mw_board.specs.Depth.{depth_of}
use Rattle.mw_board.specs.Elements.{element_count}
use Rattle.mw_revise.specs.declared.keep.Block.{Block}
use Rattle.mw_revise.specs.declared.keep.Keep.{Keep}
use Rattle.mw_revise.specs.declared.keep.KeepLine.{KeepLine}
use Rattle.mw_revise.specs.declared.keep.KeepLine.TheVariants.{Equal, Fixed}
use Rattle.mw_revise.specs.declared.site.Site.{Site}
use Rattle.mw_revise.specs.Blocks.{OpenBlock}
use Rattle.mw_revise.specs.Elements.{AreNamedOnce, element_bound}
use Rattle.mw_revise.specs.KeepText.{Known}

-- a line has an element of the board, and values that the element can have
abbrev pub IsLine : BoardParts → KeepLine → Type 0
IsLine board (Equal element) = element < element_count board
IsLine board (Fixed element old_value new_value) =
    (element < element_count board) × (old_value < element_bound board element)
    × (new_value < element_bound board element)

-- the addresses of a block are below 4,096
pub record IsSite (site : Site) : Type 0 where
  pub before : site.before < 2 ^ 12
  pub after : site.after < 2 ^ 12

-- a block: its addresses, its bound, the words on the stack and its lines are in their ranges, and each line is the one
-- about its element
pub record IsBlock (board : BoardParts) (block : Block) : Type 0 where
  pub before : block.before < 2 ^ 12
  pub after : block.after < 2 ^ 12
  pub some : 1 ≤ block.bound
  pub most : block.bound ≤ 500
  pub sp : block.sp ≤ depth_of board
  pub few : length block.lines ≤ 256
  pub lines : All (IsLine board) block.lines
  pub once : AreNamedOnce block.lines

-- a block that is open
pub record IsOpen (board : BoardParts) (block : OpenBlock) : Type 0 where
  pub site : IsSite block.site
  pub some : 1 ≤ block.bound
  pub most : block.bound ≤ 500
  pub sp : IfSome block.sp (λ sp. sp ≤ depth_of board)
  pub few : length block.lines ≤ 256
  pub lines : All (IsLine board) block.lines
  pub once : AreNamedOnce block.lines

-- what is known after some lines
pub record IsKnown (board : BoardParts) (known : Known) : Type 0 where
  pub few : length known.blocks ≤ 64
  pub blocks : All (IsBlock board) known.blocks
  pub open_now : IfSome known.block (λ block. IsOpen board block × (length known.blocks < 64))

-- what a KEEP text says for a board: 1 to 64 blocks
pub record IsKeep (board : BoardParts) (keep : Keep) : Type 0 where
  pub some : 1 ≤ length keep.blocks
  pub few : length keep.blocks ≤ 64
  pub blocks : All (IsBlock board) keep.blocks
