use Rattle.mw_macro.specs.Described.{description_of}
use Rattle.mw_rel.specs.Views.{job_of}
use Rattle.mw_course.proofs.OnStep.{turns}
use Rattle.mw_course.proofs.Steps.{underway_later}
use Rattle.mw_course.proofs.step.turn.Goals as goal

pub returns-clause-under : goal.returns-clause-under
returns-clause-under c =
    let e = c.in_ok-turn.ensures in
    underway_later (description_of c.args.job.now.machine) _ _ _ _ _ _ _ _ c.requires.under e.goes e.few e.stepping

pub returns-clause-goes : goal.returns-clause-goes
returns-clause-goes c = λ number cycles elements segment board bits path on.
    let e = c.in_ok-turn.ensures in
    turns (job_of c.args.job.now) number cycles elements segment board bits _ _ path _ _ _
    c.args.job.now.is_job
    e.turn e.goes e.board e.stepping c.count.ensures.own c.steps_go_along.ensures.turns e.listed e.done
    e.begun c.requires.idle on
