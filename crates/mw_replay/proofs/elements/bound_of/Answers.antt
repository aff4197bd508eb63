use Rattle.mw_rel.specs.Views.{job_of}
use Rattle.mw_replay.proofs.Settables.{bound_most, width_most}
use Rattle.mw_replay.proofs.elements.bound_of.Goals as goal

pub two_to-requires : goal.two_to-requires
two_to-requires c = rw (c.as_slice.ensures, c.shape.ensures)
    (width_most (job_of c.args.job.now) c.args.job.now.is_job c.args.number c.requires)

pub returns-clause-most : goal.returns-clause-most
returns-clause-most c = rw (c.two_to.ensures, c.as_slice.ensures, c.shape.ensures)
    (bound_most _ (width_most (job_of c.args.job.now) c.args.job.now.is_job c.args.number c.requires))
