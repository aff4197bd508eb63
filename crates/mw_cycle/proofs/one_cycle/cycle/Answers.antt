use Rattle.std.proofs.Common.{rules}
use Rattle.mw_cycle.specs.Cycle.{answer_of, nets_of, state_after}
use Rattle.mw_cycle.proofs.Edge.{edge_fits}
use Rattle.mw_cycle.proofs.one_cycle.cycle.Goals as goal

pub returns-clause-nets : goal.returns-clause-nets
unfolding answer_of nets_of
returns-clause-nets g c = search rules

pub returns-clause-exact : goal.returns-clause-exact
unfolding answer_of state_after
returns-clause-exact g c = search rules

pub returns-clause-fits : goal.returns-clause-fits
returns-clause-fits g c =
    let y = rw c.width-width.ensures.exact at c.answer-answer.ensures.y_below in
    let next = rw c.take_edge-next.ensures.next at c.take_edge-next.ensures.below in
    let b = rw c.writes-writes.ensures.exact at c.writes-writes.ensures.b_below in
    let q = rw c.writes-writes.ensures.exact at c.writes-writes.ensures.q_below in
    let flips = rw c.flips_after-flips.ensures.exact at c.flips_after-flips.ensures.below in
    let sequencer = rw c.take_edge-next.ensures.exact at c.take_edge-next.ensures.sequencer in
    rw c.take_edge-next.ensures.exact (edge_fits _ _ _ _ _ _ c.requires.fits next sequencer y b q flips)
