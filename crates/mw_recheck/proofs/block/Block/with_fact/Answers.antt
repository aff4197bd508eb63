use Rattle.std.proofs.Common.{◌≡◌, true}
use Rattle.mw_recheck.specs.Facts.{facts_of, is_new_fact}
use Rattle.mw_recheck.specs.Nodes.{nodes_of}
use Rattle.mw_recheck.proofs.Blocks.{of_fact}
use Rattle.mw_recheck.proofs.block.Block.with_fact.Goals as goal

pub invariant_of-result : goal.invariant_of-result
invariant_of-result c =
    let s = c.self.inside in
    let new : is_new_fact (nodes_of s.lines.items) (facts_of s.lines.items) c.args.triple c.args.r ≡ true =
    rw (← c.self.view_is) at c.requires in
    rw (c.in_ok-push.ensures.items, c.line.ensures)
    (of_fact s.lines.items s.nodes.items s.listed s.facts c.insert.new.self c.args.triple c.args.r c.self.invariant new
    c.in_ok-insert.ensures.ok)
