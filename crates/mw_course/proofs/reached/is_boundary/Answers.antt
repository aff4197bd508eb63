use Rattle.std.proofs.Common.{ap, refl, sym, ◌∙◌}
use Rattle.std.specs.Option.{is_some}
use Rattle.mw_rel.specs.Views.{job_of}
use Rattle.mw_course.proofs.Named.{named_if_there}
use Rattle.mw_course.proofs.reached.is_boundary.Goals as goal

pub returns-in-Some : goal.returns-in-Some
returns-in-Some c =
    sym (named_if_there (job_of c.args.job.now) c.args.address ∙ ap is_some c.in-Some.ensures.some)

pub returns-in-None : goal.returns-in-None
returns-in-None c =
    sym (named_if_there (job_of c.args.job.now) c.args.address ∙ ap is_some (c.in-None.ensures.none refl))
