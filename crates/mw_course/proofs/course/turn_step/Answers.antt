use Rattle.std.proofs.lemmas.Result.{IfOk-weaker}
use Rattle.mw_rel.specs.Views.{job_of}
use Rattle.mw_course.proofs.Courses.{turned_on}
use Rattle.mw_course.proofs.course.turn_step.Goals as goal

pub returns-clause-goes : goal.returns-clause-goes
returns-clause-goes c =
    IfOk-weaker c.turn.result _ _ (λ turn turns.
    turned_on (job_of c.args.job.now) c.args.run.now c.turn.new.space c.args.step.now c.in-Some.step c.turn.new.step
    turn
    c.in-Some.is turns) c.turn.ensures.goes
