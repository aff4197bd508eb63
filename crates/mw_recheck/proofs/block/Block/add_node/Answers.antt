use Rattle.std.proofs.Common.{sym}
use Rattle.mw_recheck.specs.Nodes.{nodes_of}
use Rattle.mw_recheck.proofs.Blocks.{new_node_keeps}
use Rattle.mw_recheck.proofs.block.Block.add_node.Goals as goal

pub with_node-requires : goal.with_node-requires
with_node-requires c = new_node_keeps (nodes_of c.args.self) c.args.entry c.in-Ok.node (sym c.in-Ok.ensures)
