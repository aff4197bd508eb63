use Rattle.std.proofs.Common.{◌<◌, length, arith, rules}
use Rattle.mw_board.specs.Elements.{element_count}
use Rattle.mw_sim.specs.Start.{settables_of}
use Rattle.mw_sim.proofs.Starts.{pointer_in, settable_count, value_in}
use Rattle.mw_sim.proofs.start.state_with.Goals as goal

pub set_elements-requires-clause-values_in : goal.set_elements-requires-clause-values_in
set_elements-requires-clause-values_in c = search (rules, value_in, settable_count)

pub set_pointer-requires-clause-value_in : goal.set_pointer-requires-clause-value_in
set_pointer-requires-clause-value_in c =
    let board = c.args.board.now in
    let count = settable_count board in
    let last : element_count board < length (settables_of board) = omega (arith, count) in
    let small = c.requires.given.values.fit (element_count board) last in
    rw c.deref-2.ensures.value (pointer_in board _ small)
