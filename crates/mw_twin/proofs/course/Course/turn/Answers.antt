use Rattle.std.proofs.lemmas.Result.{IfOk-weaker}
use Rattle.mw_twin.proofs.Courses.{come_on}
use Rattle.mw_twin.proofs.course.Course.turn.Goals as goal

pub returns-clause-goes : goal.returns-clause-goes
returns-clause-goes c =
    IfOk-weaker c.turn_new.result _ _ (λ turn goes bits path on.
    goes bits path
    (come_on c.args.revised.now c.args.self.now c.to_new.new.self c.in_ok-turn.field-0 c.in_default.is
    c.in_ok-turn.ensures.come bits path on)) c.turn_new.ensures.goes
