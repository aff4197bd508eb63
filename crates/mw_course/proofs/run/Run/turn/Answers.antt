use Rattle.mw_rel.specs.Views.{job_of}
use Rattle.mw_course.proofs.OnRun.{on_turn}
use Rattle.mw_course.proofs.Runs.{turned}
use Rattle.mw_course.proofs.run.Run.turn.Goals as goal

pub returns-clause-turned : goal.returns-clause-turned
returns-clause-turned c =
    let e = c.in_ok-turn.ensures in
    turned (job_of c.args.job.now) _ _ _ _ _ _ _ _ _ _ c.requires.under e.goes e.turn e.symbolic e.reads e.all

pub returns-clause-goes : goal.returns-clause-goes
returns-clause-goes c = λ number elements bits path on.
    let e = c.in_ok-turn.ensures in
    on_turn (job_of c.args.job.now) number elements bits path c.args.self.now _ _ _ c.args.job.now.is_job
    c.requires.under.space.workspace c.requires.under.symbolic c.requires.idle e.goes e.turn e.listed e.symbolic e.all
    e.other c.count.ensures.own on
