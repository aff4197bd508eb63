use Rattle.mw_top.proofs.commands.certify.report.Goals as goal

pub returns : goal.returns
returns g c = record {
  job_is = c.args.job.now.is_job;
  verdict = c.in_ok-verdict.verdict;
  answers = c.in_ok-verdict.ensures;
  status_is = c.status_of.ensures;
  report_is = c.in_ok-append_verdict.ensures;
}
