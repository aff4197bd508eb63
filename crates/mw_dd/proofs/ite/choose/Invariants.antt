use Rattle.mw_dd.specs.Steps.{Grows}
use Rattle.mw_dd.specs.Waiting.{AreNoted, StandsAt, steps_left}
use Rattle.mw_dd.proofs.ite.choose.Given as goal

abbrev pub invariant-loop-next : goal.invariant-loop-next
invariant-loop-next l = Grows l.fn.nodes l.nodes × AreNoted l.nodes l.notes l.budget l.fn.t
    × StandsAt l.nodes l.notes l.budget l.fn.t l.next

abbrev pub decreases-loop-next : goal.decreases-loop-next
decreases-loop-next l = steps_left l.notes.waiting.items l.next
