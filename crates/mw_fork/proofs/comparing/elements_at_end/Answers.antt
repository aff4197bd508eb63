use Rattle.mw_fork.proofs.Sides.{pushed_next}
use Rattle.mw_fork.proofs.comparing.elements_at_end.Goals as goal

pub loop-number-preserved : goal.loop-number-preserved
loop-number-preserved c =
    pushed_next _ _ _ _ c.loop-number.number c.loop-number.invariant c.in_ok-push.ensures.items c.element.ensures
