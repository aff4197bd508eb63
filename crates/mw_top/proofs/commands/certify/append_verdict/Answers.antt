use Rattle.mw_rel.specs.Views.{job_of}
use Rattle.mw_top.proofs.Noes.{over_is_there}
use Rattle.mw_top.proofs.commands.certify.append_verdict.Goals as goal

pub append_unknown-requires : goal.append_unknown-requires
append_unknown-requires c =
    over_is_there (job_of c.args.job.now) c.args.budget c.in-Unknown.over (rw c.in-Unknown.is at c.requires.is)
