-- Blocks of a revision that was read.
use Rattle.std.specs.Prelude.{◌≡◌, ℕ, All, Some, slice_get}
use Rattle.mw_revise.specs.Kept.{IsBlock}
use Rattle.mw_revise.specs.Revision.{IsRevision}
use Rattle.mw_twin.specs.RevisedBlocks.{RevisedBlock}

-- a revision and its block of this number, which keep the rules
pub record IsBlockAt (number : ℕ) (s : RevisedBlock) : Type 0 where
  pub revision_is : IsRevision s.revision
  pub there : slice_get s.revision.keep.blocks number ≡ Some s.block
  pub block_is : IsBlock s.revision.board s.block
  pub blocks : All (IsBlock s.revision.board) s.revision.keep.blocks
