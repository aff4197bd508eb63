use Rattle.std.proofs.Common.{◌<◌, arith}
use Rattle.mw_dd.proofs.Walks.{walk-none, walk-end}
use Rattle.mw_dd.proofs.first.first_assignment.Goals as goal

pub loop-alloc-init : goal.loop-alloc-init
loop-alloc-init c = rw c.new-assignment.ensures (walk-none c.args.nodes.now c.args.x c.requires.there c.requires.some)

pub first_branch-requires-clause-there : goal.first_branch-requires-clause-there
first_branch-requires-clause-there c = c.loop-alloc.invariant.there

pub loop-alloc-preserved : goal.loop-alloc-preserved
loop-alloc-preserved c = c.in_ok-at.ensures.walks c.args.x c.loop-alloc.invariant

pub returns : goal.returns
returns c =
    let below : c.loop-alloc.at < 2 = omega (arith, c.loop-alloc-test.false, c.position.ensures.exact) in
    walk-end c.args.nodes.now c.args.x c.loop-alloc.assignment c.loop-alloc.at c.loop-alloc.invariant below
