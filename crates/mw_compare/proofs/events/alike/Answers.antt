use Rattle.std.proofs.Common.{◌≡◌, ◌∙◌, arith, sym, rules}
use Rattle.mw_compare.proofs.EventsCompared.{AreAt, alike_next, differ_not, is_out, out_is, unlike_count, unlike_here}
use Rattle.mw_compare.proofs.events.alike.Goals as goal

pub returns-then-board-machine : goal.returns-then-board-machine
returns-then-board-machine c =
    unlike_count c.args.board.now c.args.machine.now (λ same. omega (arith, same, c.if-board-machine.true))

pub returns-then-is_some : goal.returns-then-is_some
returns-then-is_some c =
    let at : AreAt c.args.board.now c.args.machine.now c.loop-number.number c.index-board-number.result
    c.index-machine-number.result =
    assumption (
      c.loop-number-test.true,
      c.loop-number.invariant.count,
      c.index-board-number.is,
      c.index-machine-number.is,
    ) in
    let first = out_is c.index-board-number.result c.out_of.result c.out_of.ensures in
    let second = out_is c.index-machine-number.result c.out_of-in-loop-number.result c.out_of-in-loop-number.ensures in
    let told = c.if-is_some.true in
    sym (c.loop-number.invariant.left
    ∙ unlike_here c.args.board.now c.args.machine.now c.loop-number.number c.index-board-number.result
    c.index-machine-number.result at
    (λ same. differ_not c.is_some.result c.is_some-in-loop-number.result told
    (c.is_some.ensures ∙ first ∙ same ∙ sym second ∙ sym c.is_some-in-loop-number.ensures)))

pub loop-number-preserved : goal.loop-number-preserved
loop-number-preserved c =
    let at : AreAt c.args.board.now c.args.machine.now c.loop-number.number c.index-board-number.result
    c.index-machine-number.result =
    assumption (
      c.loop-number-test.true,
      c.loop-number.invariant.count,
      c.index-board-number.is,
      c.index-machine-number.is,
    ) in
    let first = out_is c.index-board-number.result c.out_of.result c.out_of.ensures in
    let second = out_is c.index-machine-number.result c.out_of-in-loop-number.result c.out_of-in-loop-number.ensures in
    let same : is_out c.index-board-number.result ≡ is_out c.index-machine-number.result = search rules in
    record {
      count = c.loop-number.invariant.count;
      left = c.loop-number.invariant.left
          ∙ alike_next c.args.board.now c.args.machine.now c.loop-number.number c.index-board-number.result
          c.index-machine-number.result at same;
    }
