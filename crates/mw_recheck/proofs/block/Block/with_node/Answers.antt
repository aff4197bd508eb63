use Rattle.std.proofs.Common.{◌≡◌, true}
use Rattle.mw_recheck.specs.Nodes.{nodes_of, is_new_node}
use Rattle.mw_recheck.proofs.Blocks.{of_node}
use Rattle.mw_recheck.proofs.block.Block.with_node.Goals as goal

pub invariant_of-result : goal.invariant_of-result
invariant_of-result c =
    let s = c.self.inside in
    let new : is_new_node (nodes_of s.lines.items) c.args.node ≡ true = rw (← c.self.view_is) at c.requires in
    rw (c.in_ok-push.ensures.items, c.line.ensures, c.in_ok-push-2.ensures.items)
    (of_node s.lines.items s.nodes.items s.listed c.insert.new.self s.facts c.args.node c.self.invariant new
    c.in_ok-insert.ensures.updates)
