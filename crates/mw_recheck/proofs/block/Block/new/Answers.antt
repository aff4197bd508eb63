use Rattle.mw_recheck.proofs.Blocks.{of_none}
use Rattle.mw_recheck.proofs.block.Block.new.Goals as goal

pub invariant_of-result : goal.invariant_of-result
invariant_of-result c =
    rw (c.new.ensures.items, c.new-2.ensures.items)
    (of_none c.new-3.result c.new-4.result c.new-3.ensures.empty c.new-4.ensures)
