use Rattle.mw_top.proofs.commands.bounds.report.Goals as goal

pub returns : goal.returns
returns g c = record {
  job_is = c.args.job.now.is_job;
  bounds = c.in_ok-answer.answer;
  answers = c.in_ok-answer.ensures;
  status_is = c.status_of.ensures;
  report_is = rw c.new-report.ensures.items at c.in_ok-append_bounds.ensures;
}
