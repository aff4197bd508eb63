use Rattle.std.proofs.lemmas.Result.{IfOk-weaker}
use Rattle.mw_rel.specs.Views.{job_of}
use Rattle.mw_course.proofs.Courses.{come_on}
use Rattle.mw_course.proofs.course.Course.turn.Goals as goal

pub returns-clause-goes : goal.returns-clause-goes
returns-clause-goes c =
    IfOk-weaker c.turn_step.result _ _ (λ turn goes elements bits path on.
    goes c.args.boundary elements bits path
    (come_on (job_of c.args.job.now) c.args.boundary c.args.self.now c.to_step.new.self c.in_ok-turn.field-0
    c.in_default.is c.in_ok-turn.ensures.come elements bits path on)) c.turn_step.ensures.goes
