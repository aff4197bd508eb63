use Rattle.mw_rel.specs.Views.{job_of}
use Rattle.mw_top.proofs.Bounded.{over_there}
use Rattle.mw_top.proofs.commands.bounds.append_bounds.Goals as goal

pub append_ranges-requires-clause-are : goal.append_ranges-requires-clause-are
append_ranges-requires-clause-are c =
    rw c.as_slice.ensures (λ number range there. ((rw c.in-Found.is at c.requires).each number range there).range_is)

pub append_unknown-requires : goal.append_unknown-requires
append_unknown-requires c =
    over_there (job_of c.args.job.now) c.args.budget c.in-Unknown.over (rw c.in-Unknown.is at c.requires)
