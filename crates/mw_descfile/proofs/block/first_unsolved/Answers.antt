use Rattle.mw_descfile.proofs.Blocks.{line_at}
use Rattle.mw_descfile.proofs.block.first_unsolved.Goals as goal

pub loop-place-preserved : goal.loop-place-preserved
loop-place-preserved c =
    line_at c.args.lines.now _ _ _ c.loop-place.place _ c.loop-place-test.true c.index-lines-place.is
    c.first_of_line-first.ensures c.loop-place.invariant
