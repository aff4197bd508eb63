-- An old and a new program on one board, and where and how they stand together.
use Rattle.std.specs.Prelude.{◌≡◌, ℕ, List, map, find, ◌==◌, slice_get, Option, Some}
use Rattle.mw_board.specs.declared.parts.BoardParts.{BoardParts}
use Rattle.mw_board.specs.Valid.{IsBoard}
use Rattle.mw_revise.specs.declared.keep.Block.{Block}
use Rattle.mw_revise.specs.declared.keep.Keep.{Keep}
use Rattle.mw_revise.specs.declared.programs.Side.{Side}
use Rattle.mw_revise.specs.declared.programs.Side.TheVariants.{Old, New}
use Rattle.mw_revise.specs.Sites.{address_on}

-- the board, the microwords of both programs from address 0 on, and what a KEEP text says of them
pub record Revision : Type 0 where
  pub board : BoardParts
  pub before : List ℕ
  pub after : List ℕ
  pub keep : Keep

-- the microwords of one of both programs
abbrev pub store_of : Side → Revision → List ℕ
store_of Old revision = revision.before
store_of New revision = revision.after

-- the control addresses of the boundaries in one of both programs
abbrev pub addresses_of : Side → Revision → List ℕ
addresses_of side revision = map (address_on side) revision.keep.blocks

-- the boundary at a control address of a program
abbrev pub block_at : Side → Revision → ℕ → Option Block
block_at side revision at = find (λ (block : Block). address_on side block == at) revision.keep.blocks

-- a boundary of the revision
abbrev pub IsBlockOf : Revision → Block → Type 0
IsBlockOf revision block = (n : ℕ) × (slice_get revision.keep.blocks n ≡ Some block)

-- each boundary is the one at its control address in a program
abbrev pub AreApart : Side → List Block → Type 0
AreApart side blocks = (n : ℕ) (block : Block) → slice_get blocks n ≡ Some block
    → find (λ (other : Block). address_on side other == address_on side block) blocks ≡ Some block

-- a board, and boundaries each of which is the one at its control address in both programs
pub record IsRevision (revision : Revision) : Type 0 where
  pub board : IsBoard revision.board
  pub apart : (side : Side) → AreApart side revision.keep.blocks
