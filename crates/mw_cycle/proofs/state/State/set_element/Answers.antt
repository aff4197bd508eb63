use Rattle.std.proofs.Common.{◌<◌, ◌^◌}
use Rattle.mw_cycle.specs.Elements.{bits_of, element_of}
use Rattle.mw_cycle.proofs.Values.{apart, is_element, width_is, takes, leaves, still_fits}
use Rattle.mw_cycle.proofs.state.State.set_element.Goals as goal

pub set_value-requires-clause-valid : goal.set_value-requires-clause-valid
set_value-requires-clause-valid c =
    rw c.element_of.ensures.exact (is_element c.args.board.now c.args.number c.requires.there)

pub set_value-requires-clause-value_in : goal.set_value-requires-clause-value_in
set_value-requires-clause-value_in c =
    rw c.element_of.ensures.exact (rw (width_is c.args.board.now c.args.number c.requires.there) at c.requires.value_in)

pub returns-clause-fits : goal.returns-clause-fits
returns-clause-fits c =
    let board = c.args.board.now in
    let valid = is_element board c.args.number c.requires.there in
    let value_in : c.args.value < 2 ^ bits_of board (element_of board c.args.number) =
    rw (width_is board c.args.number c.requires.there) at c.requires.value_in in
    rw (c.set_value.ensures.exact, c.element_of.ensures.exact)
    (still_fits board c.args.self.now (element_of board c.args.number) c.args.value c.requires.fits valid value_in)

pub returns-clause-set : goal.returns-clause-set
returns-clause-set c =
    let board = c.args.board.now in
    let valid = is_element board c.args.number c.requires.there in
    let value_in : c.args.value < 2 ^ bits_of board (element_of board c.args.number) =
    rw (width_is board c.args.number c.requires.there) at c.requires.value_in in
    rw (c.set_value.ensures.exact, c.element_of.ensures.exact)
    (takes board c.args.self.now
    (element_of board c.args.number) c.args.value c.requires.fits c.parts.ensures.valid.few_flipflops valid value_in)

pub returns-clause-others : goal.returns-clause-others
returns-clause-others c = λ other there differ.
    let board = c.args.board.now in
    let valid = is_element board c.args.number c.requires.there in
    let value_in : c.args.value < 2 ^ bits_of board (element_of board c.args.number) =
    rw (width_is board c.args.number c.requires.there) at c.requires.value_in in
    rw (c.set_value.ensures.exact, c.element_of.ensures.exact)
    (leaves board c.args.self.now (element_of board c.args.number) (element_of board other)
    c.args.value c.parts.ensures.valid.few_flipflops valid (is_element board other there) value_in
    (apart board other c.args.number differ))
