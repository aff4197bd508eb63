use Rattle.std.proofs.Common.{◌≡◌, ◌≤◌}
use Rattle.mw_board.specs.Elements.{element_count}
use Rattle.mw_sim.specs.Start.{settables_of}
use Rattle.mw_sim.proofs.Starts.{settables_all, settables_more, settables_bounded}
use Rattle.mw_sim.proofs.start.settables_of.Goals as goal

pub loop-number-preserved : goal.loop-number-preserved
loop-number-preserved c = settables_more c.args.board.now c.loop-number.number c.loop-number.elements.items _
    c.loop-number.invariant c.in_ok-push_element.ensures

pub returns-clause-exact : goal.returns-clause-exact
returns-clause-exact c =
    let past : element_count c.args.board.now ≤ c.loop-number.number = rw c.element_count-number-end.ensures at
    c.loop-number-test.false in
    settables_all c.args.board.now c.loop-number.number c.loop-number.elements.items _ c.loop-number.invariant past
    (rw c.in_ok-stack_pointer.ensures at c.in_ok-push.ensures.items)

pub returns-clause-bounded : goal.returns-clause-bounded
returns-clause-bounded c =
    let past : element_count c.args.board.now ≤ c.loop-number.number = rw c.element_count-number-end.ensures at
    c.loop-number-test.false in
    let all : c.push.new.self.items
    ≡ settables_of c.args.board.now = settables_all c.args.board.now c.loop-number.number
    c.loop-number.elements.items _ c.loop-number.invariant past
    (rw c.in_ok-stack_pointer.ensures at c.in_ok-push.ensures.items) in
    rw all (settables_bounded c.args.board.now c.parts.ensures.valid)
