use Rattle.mw_rel.specs.Views.{job_of}
use Rattle.mw_rel.proofs.Elements.{widths_count, widths_few}
use Rattle.mw_rel.proofs.job.Job.element_count.Goals as goal

pub returns-clause-both : goal.returns-clause-both
returns-clause-both c =
    rw (c.as_slice.ensures, c.shape.ensures) (widths_count (job_of c.args.self.now) c.args.self.now.is_job)

pub returns-clause-few : goal.returns-clause-few
returns-clause-few c =
    rw (c.as_slice.ensures, c.shape.ensures) (widths_few (job_of c.args.self.now) c.args.self.now.is_job)
