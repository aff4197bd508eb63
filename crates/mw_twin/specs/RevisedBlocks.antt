-- A revision, and one of its blocks, at which runs begin.
use Rattle.mw_revise.specs.declared.keep.Block.{Block}
use Rattle.mw_revise.specs.Kept.{IsBlock}
use Rattle.mw_revise.specs.Revision.{IsBlockOf, IsRevision, Revision}

-- a revision and a block
pub record RevisedBlock : Type 0 where
  pub revision : Revision
  pub block : Block

-- The block is one of the revision, and keeps the rules of blocks.
pub record IsRevisedBlock (s : RevisedBlock) : Type 0 where
  pub revision_is : IsRevision s.revision
  pub block_of : IsBlockOf s.revision s.block
  pub block_is : IsBlock s.revision.board s.block
