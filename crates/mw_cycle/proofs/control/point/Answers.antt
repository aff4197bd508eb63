use Rattle.mw_cycle.proofs.control.point.Goals as goal

pub returns-clause-below : goal.returns-clause-below
returns-clause-below g c = c.value_at.ensures.below _ c.requires.point
