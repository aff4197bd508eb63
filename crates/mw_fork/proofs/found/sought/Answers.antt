use Rattle.mw_rel.specs.Views.{job_of}
use Rattle.mw_fork.proofs.FoundStarts.{found_differs, found_least}
use Rattle.mw_compare.proofs.Options.{some_at}
use Rattle.mw_fork.proofs.found.sought.Goals as goal

pub returns-in-Ok-None-clause-found : goal.returns-in-Ok-None-clause-found
returns-in-Ok-None-clause-found g c = λ bits gone. (
  c.in-Ok-None.ensures.none c.in-Ok-None.field-0-is bits gone,
  c.in-Ok-None.ensures.within c.in-Ok-None.field-0-is bits gone,
)

pub begin_of-requires : goal.begin_of-requires
begin_of-requires g c =
    let gone = c.requires.gone in
    record {
      stands = (
        gone.1.course.elements,
        (some_at _ _ c.in-Ok-Some.given c.in-Ok-Some.field-0-is c.in-Ok-Some.ensures.found gone.0 gone.1).stands,
      );
    }

pub returns-in_ok-begin-in-Ok-Some-clause-found : goal.returns-in_ok-begin-in-Ok-Some-clause-found
returns-in_ok-begin-in-Ok-Some-clause-found g c = λ bits gone.
    let found = some_at _ _ c.in-Ok-Some.given c.in-Ok-Some.field-0-is c.in-Ok-Some.ensures.found bits gone in (
      found_differs (job_of c.args.job.now) c.args.boundary gone.course.elements _ c.in-Ok-Some.given _ _ found
          c.in_ok-begin-in-Ok-Some.ensures.start,
      found_least (job_of c.args.job.now) c.args.boundary gone.course.elements _ c.in-Ok-Some.given _ _ found
          c.in_ok-begin-in-Ok-Some.ensures.assigned,
    )
