-- The boundary at a control address of a program.
use Rattle.std.proofs.Common.{◌≡◌, ℕ, List, [], ◌∷◌, Bool, true, false, ◌==◌, cond, find, Some, refl, sym, ap}
use Rattle.std.proofs.Common.{◌∙◌}
use Rattle.std.specs.List.{position_or_len}
use Rattle.std.proofs.lemmas.Bool.{eqb-true}
use Rattle.std.proofs.lemmas.List.Folds.{find_at}
use Rattle.mw_revise.specs.declared.keep.Block.{Block}
use Rattle.mw_revise.specs.declared.programs.Side.{Side}
use Rattle.mw_revise.specs.Revision.{Revision, IsRevision, IsBlockOf, block_at}
use Rattle.mw_revise.specs.Sites.{address_on}

-- a boundary of the revision is the one at its address
pub there_is : (side : Side) (revision : Revision) (block : Block) → IsRevision revision → IsBlockOf revision block
    → block_at side revision (address_on side block) ≡ Some block
there_is side revision block is there = is.apart side there.0 block there.1

-- the boundary at an address is one of the revision
pub is_there : (side : Side) (revision : Revision) (at : ℕ) (block : Block) → block_at side revision at ≡ Some block
    → IsBlockOf revision block
is_there side revision at block found =
    let test = λ (other : Block). address_on side other == at in
    (position_or_len test revision.keep.blocks, sym (find_at test revision.keep.blocks) ∙ found)

passes_at : (test : Block → Bool) (x : Block) (others : List Block) (block : Block) (here : Bool) → test x ≡ here
    → cond here (Some x) (find test others) ≡ Some block → (find test others ≡ Some block → test block ≡ true)
    → test block ≡ true
passes_at test x others block true is found later = let same : x ≡ block = cc in ap test (sym same) ∙ is
passes_at test x others block false is found later = later found

found_passes : (test : Block → Bool) (blocks : List Block) (block : Block) → find test blocks ≡ Some block
    → test block ≡ true
found_passes test [] block found = cc
found_passes test (x ∷ others) block found =
    passes_at test x others block (test x) refl found (found_passes test others block)

-- and has this address
pub is_at : (side : Side) (revision : Revision) (at : ℕ) (block : Block) → block_at side revision at ≡ Some block
    → at ≡ address_on side block
is_at side revision at block found =
    sym (eqb-true (address_on side block) at
    (found_passes (λ (other : Block). address_on side other == at) revision.keep.blocks block found))
