use Rattle.std.proofs.Common.{sym}
use Rattle.std.proofs.lemmas.Result.{err_from_is_err_and}
use Rattle.mw_rel.specs.Views.{job_of}
use Rattle.mw_check.proofs.Gone.{all_gone, none_gone, stops_at_start, stops_over}
use Rattle.mw_check.proofs.certification.search.Goals as goal

pub walk-requires-clause-none : goal.walk-requires-clause-none
walk-requires-clause-none g c = none_gone (job_of c.args.job.now) c.args.boundary c.args.budget.nodes

pub returns-in_err-walk-clause-stops : goal.returns-in_err-walk-clause-stops
returns-in_err-walk-clause-stops g c =
    let error = err_from_is_err_and c.from_residual.result c.from_residual.ensures.1 in
    rw error.1 (rw (sym error.2) at (stops_over (job_of c.args.job.now) c.args.boundary c.args.budget _
    c.in_err-walk.ensures.fault))

pub returns-in-Continue-clause-ends : goal.returns-in-Continue-clause-ends
returns-in-Continue-clause-ends g c =
    all_gone (job_of c.args.job.now) c.args.boundary c.args.budget c.walk.new.visitor c.args.job.now.is_job
    c.requires.there (c.in_ok-walk.ensures.all c.in-Continue.is)

pub returns-in_ok-counter_at-in-Break-clause-ends : goal.returns-in_ok-counter_at-in-Break-clause-ends
returns-in_ok-counter_at-in-Break-clause-ends g c =
    let stopped = c.in_ok-walk.ensures.stop c.in-Break.begin c.in-Break.is in
    let counter = c.in_ok-counter_at-in-Break.ensures in
    stops_at_start (job_of c.args.job.now) c.args.boundary c.args.budget stopped.0 c.in-Break.begin _
    c.args.job.now.is_job stopped.1 counter.is counter.short
