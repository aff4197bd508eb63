-- What holds of every revision and of every block has one proof at most, so that twin starts can keep it as a fact.
use Rattle.std.specs.Prelude.{List, All}
use Rattle.std.specs.Coded.{le_prop}
use Rattle.std.proofs.Props.{props}
use Rattle.mw_board.specs.declared.parts.BoardParts.{BoardParts}
use Rattle.mw_rel.specs.OneProof.{board_once}
use Rattle.mw_revise.specs.declared.keep.Block.{Block}
use Rattle.mw_revise.specs.declared.keep.KeepLine.{KeepLine}
use Rattle.mw_revise.specs.declared.keep.KeepLine.TheVariants.{Equal, Fixed}
use Rattle.mw_revise.specs.Elements.{AreNamedOnce}
use Rattle.mw_revise.specs.Kept.{IsBlock, IsLine}
use Rattle.mw_revise.specs.Revision.{IsRevision, Revision}

-- so it is of a line
pub line_once : (board : BoardParts) (line : KeepLine) → IsProp (IsLine board line)
line_once board (Equal element) = Prim.hlevel le_prop
line_once board (Fixed element old_value new_value) = Prim.hlevel le_prop

-- of a block
pub block_once : (board : BoardParts) (block : Block) → IsProp (IsBlock board block)
unfolding AreNamedOnce
block_once board block = Prim.hlevel (line_once, le_prop, props)

-- of all blocks
pub blocks_once : (board : BoardParts) (blocks : List Block) → IsProp (All (IsBlock board) blocks)
blocks_once board blocks = Prim.hlevel (block_once, props)

-- and of a revision
pub revision_once : (revision : Revision) → IsProp (IsRevision revision)
revision_once revision = Prim.hlevel (board_once, props)
