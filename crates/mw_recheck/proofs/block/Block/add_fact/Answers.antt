use Rattle.std.proofs.Common.{sym}
use Rattle.mw_recheck.specs.Facts.{facts_of}
use Rattle.mw_recheck.specs.Nodes.{nodes_of}
use Rattle.mw_recheck.proofs.Blocks.{new_fact_keeps}
use Rattle.mw_recheck.proofs.block.Block.add_fact.Goals as goal

pub with_fact-requires : goal.with_fact-requires
with_fact-requires c =
    new_fact_keeps (nodes_of c.args.self) (facts_of c.args.self) c.args.entry (c.in-Ok.triple, c.in-Ok.r)
    (sym c.in-Ok.ensures)
