use Rattle.mw_rel.specs.Views.{job_of}
use Rattle.mw_pal.proofs.Begins.{boundary_some}
use Rattle.mw_pal.proofs.start.push_first.Goals as goal

pub free-requires : goal.free-requires
free-requires c = record { there = boundary_some (job_of c.args.job.now) c.args.job.now.is_job }
