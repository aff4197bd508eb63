use Rattle.std.proofs.Common.{◌<◌, ◌^◌}
use Rattle.mw_cycle.specs.Elements.{bits_of, element_of}
use Rattle.mw_cycle.proofs.Values.{is_element, width_is}
use Rattle.mw_cycle.proofs.state.State.element.Goals as goal

pub value_of-requires-clause-valid : goal.value_of-requires-clause-valid
value_of-requires-clause-valid c =
    rw c.element_of.ensures.exact (is_element c.args.board.now c.args.number c.requires.there)

pub returns-clause-below : goal.returns-clause-below
returns-clause-below c =
    let below : c.value_of.result < 2 ^ bits_of c.args.board.now (element_of c.args.board.now c.args.number) =
    rw c.element_of.ensures.exact at c.value_of.ensures.below in
    rw (width_is c.args.board.now c.args.number c.requires.there) below
