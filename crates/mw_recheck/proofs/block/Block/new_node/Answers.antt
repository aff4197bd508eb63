use Rattle.std.proofs.Common.{arith}
use Rattle.mw_recheck.specs.LogText.{node_in}
use Rattle.mw_recheck.proofs.Blocks.{fits_few}
use Rattle.mw_recheck.proofs.block.Block.new_node.Goals as goal

pub overflow_cast-node-3 : goal.overflow_cast-node-3
overflow_cast-node-3 c =
    let nodes = c.self.inside.nodes in
    let all = fits_few c.deref.result.now nodes.items (node_in c.args.entry) c.branches_fit.result
    (omega (arith, nodes.ok.0, nodes.ok.1, nodes.small)) c.deref.ensures.value c.branches_fit.ensures
    c.if-not-branches_fit.false in
    omega (arith, all.0)

pub overflow_cast-node-4 : goal.overflow_cast-node-4
overflow_cast-node-4 c =
    let nodes = c.self.inside.nodes in
    let all = fits_few c.deref.result.now nodes.items (node_in c.args.entry) c.branches_fit.result
    (omega (arith, nodes.ok.0, nodes.ok.1, nodes.small)) c.deref.ensures.value c.branches_fit.ensures
    c.if-not-branches_fit.false in
    omega (arith, all.1)
