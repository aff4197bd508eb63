use Rattle.std.proofs.Common.{arith}
use Rattle.mw_dd.proofs.Below.{walk-end, walk-on}
use Rattle.mw_dd.proofs.Lists.{at-index}
use Rattle.mw_dd.proofs.bounds.walk.Goals as goal

pub returns-then-at-count : goal.returns-then-at-count
returns-then-at-count c =
    walk-end c.args.nodes.now c.args.x c.loop-at.found.items c.loop-at.at c.len-count.result c.loop-at.invariant
    (omega (arith, c.if-at-count.true, c.len-count.ensures, c.loop-at.found.ok.0))
    (omega (arith, c.len-count.ensures, c.loop-at.found.ok.0))

pub note_branches-requires-clause-there : goal.note_branches-requires-clause-there
note_branches-requires-clause-there c =
    c.loop-at.invariant.there c.loop-at.at c.index-y.result.now
    (at-index c.loop-at.found.items c.loop-at.at c.index-y.result.now
    (omega (arith, c.if-at-count.false, c.len-count.ensures, c.loop-at.found.ok.0)) c.index-y.ensures)

pub loop-at-preserved : goal.loop-at-preserved
loop-at-preserved c =
    walk-on c.args.nodes.now c.args.x c.loop-at.found.items c.note_branches.new.found.items c.loop-at.at
    c.index-y.result.now c.loop-at.invariant
    (at-index c.loop-at.found.items c.loop-at.at c.index-y.result.now
    (omega (arith, c.if-at-count.false, c.len-count.ensures, c.loop-at.found.ok.0)) c.index-y.ensures)
    c.in_ok-note_branches.ensures
