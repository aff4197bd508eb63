use Rattle.mw_rel.specs.Views.{job_of}
use Rattle.mw_course.proofs.Courses.{begins}
use Rattle.mw_course.proofs.course.Course.new.Goals as goal

pub returns : goal.returns
returns c =
    λ path always.
    let e = c.in_ok-new.ensures in
    begins (job_of c.args.job.now) c.args.boundary e.first.0 path c.in_ok-new.field-0 c.args.job.now.is_job c.requires
    e.under e.idle (e.first.1 path always)
