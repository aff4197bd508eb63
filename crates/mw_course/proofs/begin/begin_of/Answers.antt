use Rattle.std.proofs.Common.{arith}
use Rattle.mw_term.specs.Assigned.{given_by}
use Rattle.mw_rel.specs.Begin.{Begin}
use Rattle.mw_rel.specs.Views.{job_of}
use Rattle.mw_course.proofs.Begun.{assigned_by, start_begun}
use Rattle.mw_course.proofs.begin.begin_of.Goals as goal

pub environment_of-requires-clause-workspace : goal.environment_of-requires-clause-workspace
environment_of-requires-clause-workspace c = c.requires.stands.1.space.workspace

pub environment_of-requires-clause-variables : goal.environment_of-requires-clause-variables
environment_of-requires-clause-variables c =
    let ground = c.requires.stands.1 in (
      (job_of c.args.job.now).board,
      ground.cycles,
      omega (arith, ground.space.word, ground.space.workspace.memory.word.1),
      ground.variables,
    )

pub returns-clause-assigned : goal.returns-clause-assigned
returns-clause-assigned c =
    let begin : Begin =
    record { values = c.in_ok-values.values.items; memory = c.in_ok-memory.memory.items; env = c.in_ok-env.env } in
    assigned_by (job_of c.args.job.now) c.args.boundary c.args.space.now (given_by c.args.given.now) begin
    c.requires.stands.1.space c.in_ok-values.ensures c.in_ok-memory.ensures.words c.in_ok-env.ensures.entries
    c.in_ok-env.ensures.wait c.in_ok-env.ensures.trimmed

pub returns-clause-start : goal.returns-clause-start
returns-clause-start c = λ elements ground.
    let begin : Begin =
    record { values = c.in_ok-values.values.items; memory = c.in_ok-memory.memory.items; env = c.in_ok-env.env } in
    start_begun (job_of c.args.job.now) c.args.boundary c.args.space.now elements (given_by c.args.given.now) begin
    c.args.job.now.is_job ground c.in_ok-values.ensures c.in_ok-memory.ensures.image c.in_ok-memory.ensures.fit
    c.in_ok-env.ensures.entries c.in_ok-env.ensures.wait
