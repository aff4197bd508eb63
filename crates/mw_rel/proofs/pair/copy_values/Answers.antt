use Rattle.std.proofs.Common.{◌+◌, ◌<◌, length, slice_index, sym, ◌∙◌, arith}
use Rattle.mw_board.specs.Elements.{element_count}
use Rattle.mw_rel.specs.InRelation.{values_in}
use Rattle.mw_rel.proofs.Elements.{board_value, register_value, put_more, set_length, values_are}
use Rattle.mw_rel.proofs.pair.copy_values.Goals as goal

pub loop-number-preserved : goal.loop-number-preserved
loop-number-preserved c =
    let board = c.args.board.now in
    let all = values_in board c.args.state.now c.args.registers.now in
    let values = c.loop-number.values in
    let n = c.loop-number.number in
    let below : n < element_count board = omega
    (arith, c.loop-number-test.true, c.loop-number.auto.number-end, c.element_count-count.ensures) in
    let within : n < length values = omega (arith, c.loop-number.invariant.places) in
    let is = c.element.ensures.exact ∙ sym (board_value board c.args.state.now c.args.registers.now n below) in
    record {
      places = set_length values n c.element.result ∙ c.loop-number.invariant.places;
      so_far = λ i before. put_more values all n c.element.result i within is c.loop-number.invariant.so_far before;
    }

pub loop-number-2-preserved : goal.loop-number-2-preserved
loop-number-2-preserved c =
    let board = c.args.board.now in
    let all = values_in board c.args.state.now c.args.registers.now in
    let values = c.loop-number-2.values in
    let n = c.loop-number-2.number in
    let count = c.element_count-count.ensures in
    let word = slice_index c.args.registers.now n in
    let within : element_count board + n < length values = omega
    (arith, c.loop-number-2.invariant.places, c.loop-number-2-test.true, c.loop-number-2.auto.number-end) in
    rw count (record {
      places = set_length values (element_count board + n) word ∙ c.loop-number-2.invariant.places;
      so_far = λ i before. put_more values all (element_count board + n) word i within
          (sym (register_value board c.args.state.now c.args.registers.now n)) c.loop-number-2.invariant.so_far
          (omega arith);
    })

pub returns : goal.returns
returns c = record {
  exact = values_are c.args.board.now c.args.state.now c.args.registers.now c.loop-number-2.values
      c.loop-number-2.number c.loop-number-2.invariant.places
      (omega (arith, c.loop-number-2-test.false, c.loop-number-2.auto.number-end)) c.loop-number-2.invariant.so_far;
}
