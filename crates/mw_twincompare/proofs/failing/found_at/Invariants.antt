use Rattle.std.proofs.Common.{◌≡◌, drop}
use Rattle.std.specs.Prelude.{◌==◌, find}
use Rattle.mw_revise.specs.declared.keep.Block.{Block}
use Rattle.mw_twincompare.proofs.failing.found_at.Given as goal

abbrev pub invariant-loop-block : goal.invariant-loop-block
invariant-loop-block l =
    find (λ (b : Block). b.before == l.address) l.blocks
    ≡ find (λ (b : Block). b.before == l.address) (drop l.block-index l.blocks)
