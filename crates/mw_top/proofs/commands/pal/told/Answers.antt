use Rattle.std.proofs.Common.{subst}
use Rattle.mw_check.specs.Comparison.{Shows}
use Rattle.mw_rel.specs.Start.{Start}
use Rattle.mw_rel.specs.Views.{job_of}
use Rattle.mw_replay.proofs.Starts.{starts_are_one}
use Rattle.mw_top.proofs.commands.pal.told.Goals as goal

pub returns : goal.returns
returns c = λ start its.
    let job = job_of c.args.job.now in
    let shown = c.in_ok-compared.ensures in
    let same = starts_are_one job c.args.talk.now.counter shown.0 start c.args.job.now.is_job c.requires.there
    (rw (← c.talk.view_is) shown.1) its in
    record {
      compared = c.in_ok-compared.compared;
      shows = subst (λ (s : Start). Shows job s c.args.steps c.in_ok-compared.compared) same shown.2;
      status_is = c.status_of.ensures;
      report_is = rw c.new-report.ensures.items at (c.in_ok-append_pal.ensures start its);
    }
