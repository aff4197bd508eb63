use Rattle.std.proofs.Common.{◌+◌, ◌∙◌, sym, length, arith}
use Rattle.mw_base.proofs.Orders.{in_order_on}
use Rattle.mw_base.proofs.Stretches.{line_done}
use Rattle.mw_base.proofs.scan.push_pieces.Goals as goal

pub loop-at-preserved : goal.loop-at-preserved
loop-at-preserved c = record {
  reads = c.in-Ok.ensures.goes ∙ c.loop-at.invariant.reads;
  ordered = λ text front is old. c.in-Ok.ensures.ordered text front is (c.loop-at.invariant.ordered text front is old);
  inside = c.in-Ok.ensures.on.1;
}

pub returns-clause-pushed : goal.returns-clause-pushed
returns-clause-pushed c =
    sym (line_done c.loop-at.tokens.items c.args.number c.args.start c.loop-at.at c.args.line.now c.loop-at-test.false)
    ∙ c.loop-at.invariant.reads

pub returns-clause-ordered : goal.returns-clause-ordered
returns-clause-ordered c = λ text front is old.
    in_order_on text (c.args.start + c.loop-at.at) (c.args.start + length c.args.line.now) _
    (c.loop-at.invariant.ordered text front is old) (omega (arith, c.loop-at.invariant.inside))
