use Rattle.std.proofs.Common.{sym, ◌∙◌}
use Rattle.mw_rel.specs.Views.{job_of}
use Rattle.mw_top.proofs.Noes.{shows_it, shows_one}
use Rattle.mw_top.proofs.commands.certify.difference_shown.Goals as goal

pub unreachable-requires : goal.unreachable-requires
unreachable-requires c =
    let told = c.in_ok-difference.ensures in
    shows_one (job_of c.args.job.now) c.args.counter.now told.0 c.args.job.now.is_job c.requires told.1
    (sym told.2 ∙ c.in-None.is)

pub returns : goal.returns
returns c =
    let told = c.in_ok-difference.ensures in
    shows_it (job_of c.args.job.now) c.args.counter.now told.0 c.in-Some.difference c.requires told.1
    (sym told.2 ∙ c.in-Some.is)
