use Rattle.std.proofs.Common.{◌+◌, ◌≤◌, length, arith}
use Rattle.mw_base.proofs.Known.{are_known}
use Rattle.mw_base.proofs.LineReads.{goes_on, fails, all_read, one_more}
use Rattle.mw_base.proofs.Orders.{in_order_on, slice_front}
use Rattle.mw_base.proofs.line.lines.Goals as goal

pub returns-in-Err : goal.returns-in-Err
returns-in-Err c =
    let faulty = rw c.content.ensures.exact at c.in-Err.ensures.exact in
    record {
      exact =
          fails c.in-Err.refusal c.loop-start.lines.items (c.loop-start.number + 1) c.loop-start.start c.args.text.now
          c.first_line-line.result.now _ c.first_line-line.ensures.first faulty c.loop-start.invariant.reads;
      ordered = tt;
      known = tt;
    }

pub loop-start-preserved : goal.loop-start-preserved
loop-start-preserved c =
    let old = c.loop-start.lines.items in
    let start = c.loop-start.start in
    let line = c.first_line-line.result.now in
    let content = c.content.result.now in
    let read = rw c.content.ensures.exact at c.in-Ok.ensures.exact in
    let sliced = slice_front c.args.text.now line content start c.first_line-line.ensures.front c.content.ensures.front
    c.content.ensures.within in
    let on = c.in-Ok.ensures.ordered c.args.text.now _ sliced c.loop-start.invariant.ordered in
    let goes = goes_on old c.in-Ok.read (c.loop-start.number + 1)
    start c.args.text.now line _ c.first_line-line.ensures.first read c.loop-start.invariant.reads in
    let inside : start + length line ≤ length c.args.text.now = omega arith in
    record {
      reads = rw c.in_ok-push-in-Ok.ensures.items goes;
      ordered = rw (c.in_ok-push-in-Ok.ensures.items, one_more old c.in-Ok.read)
          (in_order_on c.args.text.now (start + length content) (start + length line) _ on (omega arith));
      counted = omega arith;
      inside = inside;
    }

pub returns : goal.returns
returns c =
    let end = length c.args.text.now in
    let ordered =
    in_order_on c.args.text.now c.loop-start.start end _ c.loop-start.invariant.ordered c.loop-start.invariant.inside in
    record {
      exact = all_read c.loop-start.lines.items (c.loop-start.number + 1)
          c.loop-start.start c.args.text.now _ c.loop-start-test.false c.loop-start.invariant.reads;
      ordered = ordered;
      known = are_known c.args.text.now end _ ordered;
    }
