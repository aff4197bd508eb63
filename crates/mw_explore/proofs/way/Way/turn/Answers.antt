use Rattle.mw_explore.specs.declared.way.Kept.{Kept}
use Rattle.std.proofs.Common.{ap, sym, ◌∙◌}
use Rattle.std.specs.Prelude.{List, Some}
use Rattle.mw_explore.specs.Ways.{turned_last}
use Rattle.mw_explore.proofs.Turned.{dropped_there, some_there, turned_there}
use Rattle.mw_explore.proofs.way.Way.turn.Goals as goal

pub returns-then-last-clause-yes : goal.returns-then-last-clause-yes
returns-then-last-clause-yes c = λ same.
    let at = c.in-Some.ensures.some in
    c.loop-last.invariant
    ∙ turned_there c.loop-last.self c.in-Some.last (some_there _ _ _ at) at c.if-last.true
    ∙ sym (ap (λ (w : List Kept). Some w) c.turn_bit.ensures)

pub loop-last-preserved : goal.loop-last-preserved
loop-last-preserved c =
    let at = c.in-Some.ensures.some in
    c.loop-last.invariant
    ∙ dropped_there c.loop-last.self c.in-Some.last (some_there _ _ _ at) at c.if-last.false
    ∙ sym (ap (λ (w : List Kept). turned_last w) c.drop_last.ensures)
