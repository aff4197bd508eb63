use Rattle.mw_cycle.proofs.Ranges.{short_below}
use Rattle.mw_cycle.proofs.control.value_at.Goals as goal

pub returns-in-Field-clause-below : goal.returns-in-Field-clause-below
returns-in-Field-clause-below c = λ bits point.
    let field = rw c.in-Field.is at point in
    short_below _ _ _ field.1 c.in_field.ensures.below
