use Rattle.mw_rel.specs.Views.{job_of}
use Rattle.mw_top.proofs.Bounded.{counter_shown}
use Rattle.mw_top.proofs.commands.bounds.append_range.Goals as goal

pub append_shown-requires : goal.append_shown-requires
append_shown-requires c =
    let range = c.args.range.now in
    counter_shown (job_of c.args.job.now) c.args.number range.least range.least_begin c.args.job.now.is_job
    c.requires.is.least

pub append_shown-requires-2 : goal.append_shown-requires-2
append_shown-requires-2 c =
    let range = c.args.range.now in
    counter_shown (job_of c.args.job.now) c.args.number range.greatest range.greatest_begin c.args.job.now.is_job
    c.requires.is.greatest
